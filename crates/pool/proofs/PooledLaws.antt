-- The answer to a pool, one case for each return of the function.
use Rattle.std.specs.Prelude.{◌≡◌, Bool, true, false, ◌&&◌, List, ℕ, zero, suc, ◌-◌, ◌^◌, ◌≤◌, ◌<◌, get_or, Err, Ok}
use Rattle.std.proofs.Math.Path.{refl, sym, ap, ap₂}
use Rattle.std.proofs.Common.{◌∙◌, subst, lit<}
use native.Mathlib.Omega.{arith}
use Rattle.std.proofs.Math.ListN.{length}
use Rattle.bits.specs.Choice.{pick}
use Rattle.bits.specs.ChoiceLaws.{never_both}
use Rattle.bits.specs.Search.{Failing, every, lowest}
use Rattle.bits.specs.Search.Failing.{at, none}
use Rattle.bits.specs.SearchLaws.{lowest_none, lowest_all, lowest_at, lowest_stops}
use Rattle.bits.specs.ListsLaws.{get_d_tabulate}
use Rattle.masking.specs.Kept.{places}
use Rattle.table.specs.declared.Choices.{Choices}
use Rattle.table.specs.declared.CpuidResults.{CpuidResults}
use Rattle.table.specs.declared.Refusal.{Refusal}
use Rattle.table.specs.declared.Refusal.TheVariants.{PoolSets, PoolDiffers}
use Rattle.table.specs.Refusal.{and_then}
use Rattle.table.specs.Rows.{Rows}
use Rattle.table.specs.Table.{table_of, empty_table}
use Rattle.memory.specs.Memory.{is_there, rows_in}
use Rattle.memory.specs.Held.{flag_at}
use Rattle.checks.specs.ExtendedState.{combined_mask}
use Rattle.checks.specs.Checks.{rows_verdict}
use Rattle.checks.specs.ChecksLaws.{then_left, then_right, demanded}
use Rattle.finish.specs.Finish.{finished}
use Rattle.memory.specs.Origin.{finished_origins}
use Rattle.collect.specs.FirstEntryOrigin.{found_origins}
use Rattle.finish.specs.declared.RowsBuilt.{RowsBuilt}
use Rattle.finish.specs.RowsBuilt.{table_for, built_from}
use Rattle.build.specs.Build.{edition_verdict, verdict_of, origins_in, answer}
use Rattle.collect.specs.Lawful.{lawful_verdict}
use Rattle.build.specs.BuildLaws.{no_origins_lem, located_origins}
use Rattle.rows.specs.Finished.{Answered, Tried}
use Rattle.register_masks.specs.Join.{pool}
use Rattle.register_masks.specs.Alike.{all_have, alike_to, all_alike}
use Rattle.register_masks.specs.PoolLaws.{Servers}
use Rattle.register_masks.proofs.PoolLaws.{pool_accepted}
use Rattle.register_masks.proofs.PoolLaws.{pool_rows_lem}
use Rattle.pool.specs.Joins.{alike_where}
use Rattle.pool.specs.PoolJoinLaws.{registers_of, alike_flags}
use Rattle.pool.specs.declared.sets.Joined.{Joined}
use Rattle.pool.specs.Sets.{set_at, last_of, lawful_sets, sets_verdict}
use Rattle.pool.proofs.SetsLaws.{at_least_two, not_too_many}
use Rattle.pool.specs.Servers.{server_verdict, server_rows, is_accepted, first_refused, refused_by, servers_verdict, number_of, pool_rows, joined_to, JoinsRest}
use Rattle.pool.specs.declared.Pooled.{Pooled}
use Rattle.pool.specs.Pool.{alike_verdict, pool_verdict, server_for, server_named, pooled, refused_pool}
use Rattle.pool.specs.PoolIn.{PoolIn, pool_in}
use Rattle.pool.specs.JoinedRows.{joined_rows}
use Rattle.pool.specs.PooledLaws.{is_accepted_lem, masked_state}
use Rattle.table.specs.Verdict.{Verdict}

-- the same test at every place
every_same : (p q : ℕ → Bool) (n : ℕ) → ((i : ℕ) → i < n → p i ≡ q i) → every p n ≡ every q n
every_same p q zero h = refl
every_same p q (suc n) h = ap₂ ◌&&◌ (h n (omega arith)) (every_same p q n (λ i l. h i (omega arith)))

module _ (c : Choices) (pages lengths : List ℕ) where
  abbrev f : ℕ → Rows
  f = server_rows c pages lengths

  abbrev n : ℕ
  n = last_of lengths

  abbrev test : ℕ → Bool
  test k = is_accepted (server_verdict c pages lengths k)

  -- none is refused
  pub none_refused : servers_verdict c pages lengths ≡ Ok tt → first_refused c pages lengths ≡ none
  unfolding servers_verdict first_refused
  none_refused e = go (first_refused c pages lengths) refl e
    where
      go : (x : Failing) → first_refused c pages lengths ≡ x → refused_by x (server_verdict c pages lengths) ≡ Ok tt → first_refused c pages lengths ≡ none
      go (at k) p q = absurd (never_both (ap is_accepted q) (lowest_at test 0 (length lengths) k p).fails)
      go none p q = p

  pub each_accepted : servers_verdict c pages lengths ≡ Ok tt → (k : ℕ) → k < length lengths → server_verdict c pages lengths k ≡ Ok tt
  unfolding first_refused
  each_accepted e k l = is_accepted_lem _ (lowest_none test 0 (length lengths) (none_refused e) k (omega arith) (omega arith))

  pub server_accepted : (k : ℕ) → server_verdict c pages lengths k ≡ Ok tt → rows_verdict (f k) ≡ Ok tt
  unfolding answer verdict_of
  server_accepted k e = then_right (lawful_verdict (set_at pages lengths k)) _ (then_right (edition_verdict c.edition) _ e)

  pub servers_of : ((k : ℕ) → k ≤ n → server_verdict c pages lengths k ≡ Ok tt) → Servers f n
  servers_of h = record {
    accepted = λ k l. server_accepted k (h k l);
    masked = λ k l. masked_state c.secure_avic (set_at pages lengths k);
  }

  -- ---- the answer by its verdict

  -- an answer whose origins are of the first server's pages
  abbrev pub pooled_by : Verdict → ℕ → CpuidResults → Pooled
  pooled_by v k t = record { verdict = v; server = k; table = t; origins = origins_in t (set_at pages lengths 0) }

  pooled_with_lem : {v : Verdict} {k : ℕ} → pool_verdict c pages lengths ≡ v → server_named c pages lengths ≡ k
      → pooled c pages lengths ≡ pooled_by v k (table_for c.edition v (pool_rows c pages lengths))
  unfolding pooled
  pooled_with_lem {v} {k} e p = rw (e, p)

  -- where the sets are lawful and no server is refused, 19 decides
  pub pooled_alike : lawful_sets pages lengths ≡ true → ((k : ℕ) → k < length lengths → server_verdict c pages lengths k ≡ Ok tt)
      → pooled c pages lengths ≡ pooled_by (alike_verdict c pages lengths) 0 (table_for c.edition (alike_verdict c pages lengths) (pool_rows c pages lengths))
  unfolding first_refused pool_verdict sets_verdict servers_verdict server_named
  pooled_alike lawful each =
      let p : first_refused c pages lengths ≡ none = lowest_all test 0 (length lengths) (λ k l u. ap is_accepted (each k (omega arith))) in
      let v : pool_verdict c pages lengths ≡ alike_verdict c pages lengths = rw (lawful, p) in
      let s : server_named c pages lengths ≡ 0 = rw (lawful, p) in
      pooled_with_lem v s

  -- an accepted pool passes every check
  pub passes_sets : pool_verdict c pages lengths ≡ Ok tt → lawful_sets pages lengths ≡ true
  unfolding pool_verdict sets_verdict
  passes_sets e = demanded (lawful_sets pages lengths) PoolSets (then_left (sets_verdict pages lengths) _ e)

  pub passes_servers : pool_verdict c pages lengths ≡ Ok tt → servers_verdict c pages lengths ≡ Ok tt
  unfolding pool_verdict
  passes_servers e = then_left (servers_verdict c pages lengths) _ (then_right (sets_verdict pages lengths) _ e)

  pub passes_alike : pool_verdict c pages lengths ≡ Ok tt → all_alike c.edition f n ≡ true
  unfolding pool_verdict alike_verdict
  passes_alike e =
      demanded (all_alike c.edition f n) PoolDiffers
      (then_right (servers_verdict c pages lengths) _ (then_right (sets_verdict pages lengths) _ e))

  -- a refusal, case by case
  refused_with : {r : Refusal} {k : ℕ} → pool_verdict c pages lengths ≡ Err r → server_named c pages lengths ≡ k
      → refused_pool r k ≡ pooled c pages lengths
  refused_with {r} {k} e p =
      ap (λ (o : List ℕ). record { verdict = Err r; server = k; table = empty_table; origins = o }) (no_origins_lem (set_at pages lengths 0))
      ∙ sym (pooled_with_lem {v = Err r} e p)

  pub pooled_sets : lawful_sets pages lengths ≡ false → refused_pool PoolSets 0 ≡ pooled c pages lengths
  pooled_sets e = refused_with (unfold pool_verdict sets_verdict in rw e) (unfold server_named sets_verdict in rw e)

  module _ (lawful : lawful_sets pages lengths ≡ true) where
    named : (x : Failing) → first_refused c pages lengths ≡ x → server_named c pages lengths ≡ number_of x
    unfolding server_named sets_verdict
    named x e = rw lawful (ap number_of e)

    -- a server is refused
    server_with : {v : Verdict} → servers_verdict c pages lengths ≡ v → pool_verdict c pages lengths ≡ and_then v (alike_verdict c pages lengths)
    unfolding pool_verdict sets_verdict
    server_with e = rw (lawful, e)

    pub pooled_first : {r : Refusal} → server_verdict c pages lengths 0 ≡ Err r → refused_pool r 0 ≡ pooled c pages lengths
    unfolding servers_verdict first_refused
    pooled_first e =
        let whole : length lengths ≡ length lengths - 0 = omega arith in
        let p : first_refused c pages lengths ≡ at 0 =
        ap (lowest test 0) whole ∙ lowest_stops test (length lengths) 0 (omega (arith, at_least_two pages lengths lawful)) (ap is_accepted e) in
        refused_with (server_with (ap (λ (x : Failing). refused_by x (server_verdict c pages lengths)) p ∙ e)) (named (at 0) p)

    module _ {q : Joined} {w : List ℕ} (j : JoinsRest c pages lengths q w) where
      joined_verdict : servers_verdict c pages lengths ≡ q.verdict
      joined_verdict = sym (ap (λ (x : Joined). x.verdict) j.answer)

      pub pooled_server : {r : Refusal} → q.verdict ≡ Err r → refused_pool r q.server ≡ pooled c pages lengths
      pooled_server e =
          refused_with (server_with (joined_verdict ∙ e))
          (named (first_refused c pages lengths) refl ∙ sym (ap (λ (x : Joined). x.server) j.answer))

      -- all are accepted: o are the first server's origins, and v, w₁ and o₁ what finishing leaves
      module _ (passed : q.verdict ≡ Ok tt) {o : List ℕ} (stands : o ≡ found_origins (set_at pages lengths 0)) {v : Verdict} {w₁ o₁ : List ℕ}
          (b : Tried (built_from c.edition (rows_in w o)) w o v w₁ o₁) where
        all_accepted : servers_verdict c pages lengths ≡ Ok tt
        all_accepted = joined_verdict ∙ passed

        all_joined : first_refused c pages lengths ≡ none
        all_joined = none_refused all_accepted

        servers : Servers f n
        servers = servers_of (λ k l. each_accepted all_accepted k (omega (arith, at_least_two pages lengths lawful)))

        rows : rows_in w o ≡ pool f n
        rows =
            ap₂ rows_in (j.registers ∙ ap (λ (x : Failing). registers_of (pool f (joined_to x lengths))) all_joined) stands
            ∙ joined_rows c.secure_avic (set_at pages lengths) n

        abbrev table : CpuidResults
        table = table_of (finished c.edition (pool f n)) (combined_mask (pool f n))

        built : built_from c.edition (rows_in w o) ≡ record { verdict = (Ok tt); table = table }
        unfolding built_from
        built =
            ap (built_from c.edition) rows
            ∙ ap (λ (x : Verdict). record { verdict = x; table = table_for c.edition x (pool f n) }) (pool_accepted f n servers)

        answered : Answered (record { verdict = (Ok tt); table = table }) o v w₁ o₁
        answered =
            subst (λ (x : RowsBuilt). Answered x o v w₁ o₁) built (b.accepted (b.verdict ∙ ap (λ (x : RowsBuilt). x.verdict) built))

        -- the rows of the pool's table are those that all tables have
        asked_all : (i : ℕ) → i < places → is_there (get_or o₁ i 0) ≡ all_have c.edition f n i
        asked_all i l =
            sym (flag_at o₁ i l)
            ∙ ap (λ (x : CpuidResults). get_or x.present i false) answered.whole
            ∙ get_d_tabulate places (λ j. (finished c.edition (pool f n) j).present) i false l
            ∙ pool_rows_lem c.edition f n servers i l

        alike_at : (i : ℕ) → i < places → get_or q.alike i false ≡ alike_to f n i
        alike_at i l =
            ap (λ (x : Joined). get_or x.alike i false) j.answer
            ∙ ap (λ (x : Failing). get_or (alike_flags f (joined_to x lengths)) i false) all_joined
            ∙ get_d_tabulate places (alike_to f n) i false l

        alike_found : alike_where o₁ q.alike ≡ all_alike c.edition f n
        unfolding alike_where all_alike
        alike_found = every_same _ _ places (λ i l. ap₂ (λ (a b : Bool). pick a b true) (asked_all i l) (alike_at i l))

        module _ {a : Bool} (found : a ≡ alike_where o₁ q.alike) where
          alike_verdict_lem : {b : Bool} → a ≡ b → pool_verdict c pages lengths ≡ pick b (Ok tt) (Err PoolDiffers)
          unfolding alike_verdict
          alike_verdict_lem h = server_with all_accepted ∙ ap (λ (x : Bool). pick x (Ok tt) (Err PoolDiffers)) (sym alike_found ∙ sym found ∙ h)

          none_named : server_named c pages lengths ≡ 0
          none_named = named none all_joined

          pub pooled_differs : a ≡ false → refused_pool PoolDiffers 0 ≡ pooled c pages lengths
          pooled_differs h = refused_with (alike_verdict_lem h) none_named

          pub pooled_accepted : a ≡ true → PoolIn (pooled c pages lengths) (record { verdict = v; server = 0 }) w₁ o₁
          pooled_accepted h =
              pool_in {p = pooled_by (Ok tt) 0 table} (sym (pooled_with_lem (alike_verdict_lem h) none_named))
              (record {
                verdict = answered.verdict;
                server = refl;
                registers = answered.table.registers;
                origins = answered.table.origins ∙ ap (finished_origins table.present) stands ∙ located_origins table (set_at pages lengths 0);
                table = answered.whole;
              })

-- a server is named by a number of 32 bits
pub server_below : (c : Choices) (pages lengths : List ℕ) → (pooled c pages lengths).server < 2 ^ 32
unfolding pooled server_named sets_verdict first_refused
server_below c pages lengths = go (lawful_sets pages lengths) refl (first_refused c pages lengths) refl
  where
    go : (b : Bool) → lawful_sets pages lengths ≡ b → (x : Failing) → first_refused c pages lengths ≡ x
        → server_for (pick b (Ok tt) (Err PoolSets)) (number_of x) < 2 ^ 32
    go false e x p = lit< tt
    go true e none p = lit< tt
    go true e (at k) p =
        omega (arith, (lowest_at (λ j. is_accepted (server_verdict c pages lengths j)) 0 (length lengths) k p).below, not_too_many pages lengths e)
