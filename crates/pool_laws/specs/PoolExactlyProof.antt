-- The proof that each answer of a pool is given exactly under its condition: the answer is one of four outcomes, and these exclude each other.
use Rattle.std.specs.Prelude.{◌≡◌, Bool, ◌&&◌, List, ◌↔◌, ◌⊎◌, ◌≢◌, ℕ, zero, suc, ◌-◌, ◌≤◌, ◌<◌, eqb, leb, length, Err, Ok}
use Rattle.std.proofs.Math.Path.{refl, sym, ap}
use Rattle.std.proofs.Common.{◌∙◌, subst, inl, inr, le_refl, arith, leb-true, leb-false, eqb-true}
use Rattle.std.proofs.Math.Bool.{true, false}
use Rattle.std.proofs.lemmas.Bool.{eqb-false}
use Rattle.bits.specs.Choice.{pick}
use Rattle.bits.specs.ChoiceLaws.{never_both, if_fails, impossible}
use Rattle.bits.specs.Search.{Failing, every, lowest}
use Rattle.bits.specs.Search.Failing.{at, none}
use Rattle.bits.specs.SearchLaws.{Lowest, every_fails, lowest_none, lowest_at}
use Rattle.masking.specs.Kept.{places}
use Rattle.table.specs.declared.Choices.{Choices}
use Rattle.table.specs.declared.Refusal.{Refusal}
use Rattle.table.specs.declared.Refusal.TheVariants.{UnknownEdition, PoolSets, PoolDiffers}
use Rattle.table.specs.Refusal.{and_then}
use Rattle.table.specs.Rows.{Row, Rows}
use Rattle.table.specs.Table.{empty_table, row_in}
use Rattle.finish.specs.Finish.{finished}
use Rattle.finish.specs.Kinds.{Registers, kinds_at}
use Rattle.finish.specs.RowsBuilt.{table_for}
use Rattle.build.specs.Build.{rows_for, answer}
use Rattle.refusals.specs.Conditions.{Check, Fault, EditionFault}
use Rattle.refusals.specs.Conditions.Check.{edition, length_of_pages, page_counts, reserved_bytes, required_leaves, invlpgb, components, save_area, processor_count, hyperthreading, threads_per_unit}
use Rattle.refusals.specs.Exactly.{FirstFault}
use Rattle.refusals.proofs.ExactlyProof.{builds_exactly, not_built_lem}
use Rattle.rise.specs.RiseProof.{answer_row}
use Rattle.register_masks.specs.Join.{all_to}
use Rattle.register_masks.specs.Alike.{Alike, registers_alike, all_have, alike_to, all_alike, AllAlike}
use Rattle.register_masks.specs.RegisterRunLaws.{all_at, all_of}
use Rattle.register_masks.specs.AlikeLaws.{registers_test, alike_of_test}
use Rattle.pool.specs.Sets.{set_start, set_at, last_of, most_sets, lawful_sets, sets_verdict}
use Rattle.pool.proofs.SetsLaws.{at_least_two, not_too_many, sums_to_slice}
use Rattle.pool.specs.Servers.{server_verdict, server_rows, is_accepted, first_refused, refused_by, servers_verdict, number_of, pool_rows}
use Rattle.pool.specs.Pool.{alike_verdict, pool_verdict, server_named, pooled}
use Rattle.pool.specs.PooledLaws.{is_accepted_lem}
use Rattle.pool_laws.specs.PoolRight.{server_table}
use Rattle.pool_laws.specs.PoolExactly.{SetsFault, ServerFault, DifferFault, AllAccepted, PoolExactly}
use Rattle.pool_laws.specs.PoolExactly.SetsFault.{few, many, sum}
use Rattle.table.specs.Verdict.{Verdict}

-- ---- 18

sets_hold : (pages lengths : List ℕ) → lawful_sets pages lengths ≡ true → SetsFault pages lengths → ⊥
sets_hold pages lengths e (few l) = omega (arith, at_least_two pages lengths e)
sets_hold pages lengths e (many l) = omega (arith, not_too_many pages lengths e)
sets_hold pages lengths e (sum n) = n (sums_to_slice pages lengths e)

sets_fail : (pages lengths : List ℕ) → lawful_sets pages lengths ≡ false → SetsFault pages lengths
unfolding lawful_sets
sets_fail pages lengths e =
    go (leb 2 (length lengths)) (leb (length lengths) most_sets) (eqb (set_start lengths (length lengths)) (length pages)) refl refl refl e
  where
    go : (p q r : Bool) → leb 2 (length lengths) ≡ p → leb (length lengths) most_sets ≡ q → eqb (set_start lengths (length lengths)) (length pages) ≡ r
        → (p && (q && r)) ≡ false → SetsFault pages lengths
    go false q r a b c f = few (omega (arith, leb-false 2 (length lengths) a))
    go true false r a b c f = many (omega (arith, leb-false (length lengths) most_sets b))
    go true true false a b c f = sum (eqb-false _ _ c)
    go true true true a b c f = absurd (never_both refl f)

-- ---- a run of tests that fails

all_fails : (p : ℕ → Bool) (n : ℕ) → all_to p n ≡ false → (k : ℕ) × (k ≤ n) × (p k ≡ false)
unfolding all_to
all_fails p zero e = (0, le_refl 0, e)
all_fails p (suc n) e = go (all_fails p n) (all_to p n) refl (p (suc n)) refl e
  where
    go : (all_to p n ≡ false → (k : ℕ) × (k ≤ n) × (p k ≡ false))
        → (a : Bool) → all_to p n ≡ a → (b : Bool) → p (suc n) ≡ b → (a && b) ≡ false → (k : ℕ) × (k ≤ suc n) × (p k ≡ false)
    go ih false f b g h = let (k, l, q) = ih f in (k, omega arith, q)
    go ih true f false g h = (suc n, le_refl (suc n), g)
    go ih true f true g h = absurd (never_both refl h)

-- ---- the four outcomes

data Outcome (c : Choices) (pages lengths : List ℕ) (v : Verdict) (s : ℕ) : Type 0 where
  sets : SetsFault pages lengths → v ≡ Err PoolSets → s ≡ 0 → Outcome c pages lengths v s
  server : (SetsFault pages lengths → ⊥) → (k : ℕ) (r : Refusal) → ServerFault c pages lengths k r → v ≡ Err r → s ≡ k → Outcome c pages lengths v s
  differs : (SetsFault pages lengths → ⊥) → AllAccepted c pages lengths → DifferFault c pages lengths → v ≡ Err PoolDiffers → s ≡ 0
      → Outcome c pages lengths v s
  accepted : (SetsFault pages lengths → ⊥) → AllAccepted c pages lengths → (DifferFault c pages lengths → ⊥) → v ≡ Ok tt → s ≡ 0
      → Outcome c pages lengths v s

is_refused : (v : Verdict) → is_accepted v ≡ false → (r : Refusal) × (v ≡ Err r)
is_refused (Ok _) e = absurd (never_both refl e)
is_refused (Err r) e = (r, refl)

module _ (c : Choices) (pages lengths : List ℕ) where
  abbrev f : ℕ → Rows
  f = server_rows c pages lengths

  abbrev n : ℕ
  n = last_of lengths

  abbrev test : ℕ → Bool
  test k = is_accepted (server_verdict c pages lengths k)

  -- 19, once every server is accepted
  module _ (two : 2 ≤ length lengths) (each : AllAccepted c pages lengths) where
    row_of : (k i : ℕ) → k < length lengths → i < places → (row_in (server_table c pages lengths k) i).present ≡ (finished c.edition (f k) i).present
    row_of k i l u = ap (λ (r : Row). r.present) (answer_row c (set_at pages lengths k) (each k l) i u)

    differ_fault : all_alike c.edition f n ≡ false → DifferFault c pages lengths
    unfolding all_alike all_have alike_to
    differ_fault e =
        let (i, l, q) = every_fails (λ i. pick (all_have c.edition f n i) (alike_to f n i) true) places e in
        let h = if_fails (all_have c.edition f n i) (alike_to f n i) q in
        let (k, u, d) = all_fails (λ k. registers_alike (kinds_at i) (f 0 i).result (f k i).result) n h.1 in
        record {
          place = i;
          inside = l;
          in_all = λ k w. row_of k i w l ∙ all_at (λ k. (finished c.edition (f k) i).present) n h.0 k (omega arith);
          server = k;
          listed = omega (arith, two);
          differs = λ a. never_both (registers_test (kinds_at i) _ _ a) d;
        }

    no_fault : all_alike c.edition f n ≡ true → DifferFault c pages lengths → ⊥
    unfolding all_have
    no_fault e d =
        d.differs ((alike_of_test c.edition f n e d.place d.inside
        (all_of (λ k. (finished c.edition (f k) d.place).present) n
        (λ k l. sym (row_of k d.place (omega (arith, two)) d.inside) ∙ d.in_all k (omega (arith, two))))).with d.server (omega (arith, d.listed)))

  outcome : Outcome c pages lengths (pooled c pages lengths).verdict (pooled c pages lengths).server
  unfolding pooled pool_verdict server_named sets_verdict servers_verdict alike_verdict first_refused
  outcome = by_sets (lawful_sets pages lengths) refl
    where
      by_alike : lawful_sets pages lengths ≡ true → first_refused c pages lengths ≡ none → AllAccepted c pages lengths
          → (b : Bool) → all_alike c.edition f n ≡ b → Outcome c pages lengths (pool_verdict c pages lengths) (server_named c pages lengths)
      by_alike e p each true a =
          accepted (sets_hold pages lengths e) each (no_fault (at_least_two pages lengths e) each a) (rw (e, p, a)) (rw (e, p))
      by_alike e p each false a =
          differs (sets_hold pages lengths e) each (differ_fault (at_least_two pages lengths e) each a) (rw (e, p, a)) (rw (e, p))

      by_server : lawful_sets pages lengths ≡ true → (x : Failing) → first_refused c pages lengths ≡ x
          → Outcome c pages lengths (pool_verdict c pages lengths) (server_named c pages lengths)
      by_server e (at k) p =
          let w : Lowest test 0 (length lengths) k = lowest_at test 0 (length lengths) k p in
          let (r, q) = is_refused (server_verdict c pages lengths k) w.fails in
          let u : pool_verdict c pages lengths ≡ and_then (server_verdict c pages lengths k) (alike_verdict c pages lengths) = rw (e, p) in
          server (sets_hold pages lengths e) k r (record {
            listed = omega (arith, w.below);
            fault = ((builds_exactly c (set_at pages lengths k)).refused r).0 q;
            before = λ j l. is_accepted_lem _ (w.before j (omega arith) l);
          })
          (u ∙ ap (λ (x : Verdict). and_then x (alike_verdict c pages lengths)) q) (rw (e, p))
      by_server e none p =
          by_alike e p (λ k l. is_accepted_lem _ (lowest_none test 0 (length lengths) p k (omega arith) (omega arith))) (all_alike c.edition f n) refl

      by_sets : (b : Bool) → lawful_sets pages lengths ≡ b → Outcome c pages lengths (pool_verdict c pages lengths) (server_named c pages lengths)
      by_sets false e = sets (sets_fail pages lengths e) (rw e) (rw e)
      by_sets true e = by_server e (first_refused c pages lengths) refl

  -- ---- they exclude each other

  refused_by_lem : {k : ℕ} {r : Refusal} → ServerFault c pages lengths k r → server_verdict c pages lengths k ≡ Err r
  refused_by_lem {k} {r} s = ((builds_exactly c (set_at pages lengths k)).refused r).1 s.fault

  not_accepted : {k : ℕ} {r : Refusal} → ServerFault c pages lengths k r → server_verdict c pages lengths k ≡ Ok tt → ⊥
  not_accepted {k} {r} s e = let q = refused_by_lem s in impossible (cc)

  same_server : {k j : ℕ} {r q : Refusal} → ServerFault c pages lengths k r → ServerFault c pages lengths j q → (k ≡ j) × (r ≡ q)
  same_server {k} {j} {r} {q} s t =
      let a : ¬ (k < j) = λ l. not_accepted s (t.before k l) in
      let b : ¬ (j < k) = λ l. not_accepted t (s.before j l) in
      let e : k ≡ j = omega arith in
      let v : server_verdict c pages lengths j ≡ Err r = subst (λ (i : ℕ). server_verdict c pages lengths i ≡ Err r) e (refused_by_lem s) in
      let w = refused_by_lem t in
      (e, cc (v, w))

  -- building gives neither 18 nor 19
  no_18 : {k : ℕ} → ServerFault c pages lengths k PoolSets → ⊥
  no_18 {k} s = not_built_lem c (set_at pages lengths k) PoolSets refl (refused_by_lem s)

  no_19 : {k : ℕ} → ServerFault c pages lengths k PoolDiffers → ⊥
  no_19 {k} s = not_built_lem c (set_at pages lengths k) PoolDiffers refl (refused_by_lem s)

  -- 15 is given exactly where the edition is not known
  edition_of : (s : List ℕ) → ((answer c s).verdict ≡ Err UnknownEdition) ↔ EditionFault c.edition
  edition_of s = (
    λ e. let g : FirstFault c s UnknownEdition = ((builds_exactly c s).refused UnknownEdition).0 e in by_check g.check g.fault,
    λ e. ((builds_exactly c s).refused UnknownEdition).1 (record { check = edition; fault = (e, refl); first = λ k q l g. absurd (omega arith) }),
  )
    where
      by_check : (k : Check) → Fault c s k UnknownEdition → EditionFault c.edition
      by_check edition g = g.0
      by_check length_of_pages g = let e = g.1 in impossible (cc)
      by_check page_counts g = let e = g.1 in impossible (cc)
      by_check reserved_bytes g = let e = g.3 in impossible (cc)
      by_check required_leaves g = let e = g.2 in impossible (cc)
      by_check invlpgb g = let e = g.1 in impossible (cc)
      by_check components g = let e = g.2 in impossible (cc)
      by_check save_area g = let e = g.1 in impossible (cc)
      by_check processor_count g = let e = g.1 in impossible (cc)
      by_check hyperthreading g = let e = g.1 in impossible (cc)
      by_check threads_per_unit g = let e = g.1 in impossible (cc)

  first_edition_lem : {k : ℕ} {r : Refusal} → EditionFault c.edition → ServerFault c pages lengths k r → r ≡ UnknownEdition
  first_edition_lem {k} {r} e s =
      let v : server_verdict c pages lengths k ≡ Err UnknownEdition = (edition_of (set_at pages lengths k)).1 e in
      let w = refused_by_lem s in cc (v, w)

  known : EditionFault c.edition → 2 ≤ length lengths → AllAccepted c pages lengths → ⊥
  known e two each = let v = (edition_of (set_at pages lengths 0)).1 e in let w = each 0 (omega arith) in impossible (cc)

  two_of : (SetsFault pages lengths → ⊥) → 2 ≤ length lengths
  two_of held = go (leb 2 (length lengths)) refl
    where
      go : (b : Bool) → leb 2 (length lengths) ≡ b → 2 ≤ length lengths
      go true e = leb-true 2 (length lengths) e
      go false e = absurd (held (few (omega (arith, leb-false 2 (length lengths) e))))

  empty_table_lem : (r : Refusal) → (pooled c pages lengths).verdict ≡ Err r → (pooled c pages lengths).table ≡ empty_table
  unfolding pooled
  empty_table_lem r e = ap (λ (v : Verdict). table_for c.edition v (pool_rows c pages lengths)) e

  pub pool_exactly : PoolExactly c pages lengths
  pool_exactly = go outcome
    where
      v : Verdict
      v = (pooled c pages lengths).verdict

      go : Outcome c pages lengths (pooled c pages lengths).verdict (pooled c pages lengths).server → PoolExactly c pages lengths
      go (sets h e s) = record {
        sets = (λ p. h, λ q. e);
        unknown = (λ p. impossible (cc), λ q. absurd (q.0 h));
        server = λ r a b k. (λ p. absurd (a (let z = p.0 in cc (e, z))), λ q. absurd (q.0 h));
        differs = (λ p. impossible (cc), λ q. absurd (q.0 h));
        accepted = (λ p. impossible (cc), λ q. absurd (q.0 h));
        unnamed = λ w. s;
        empty = empty_table_lem;
      }
      go (server held k r w e s) = record {
        sets = (λ p. absurd (no_18 (let z : r ≡ PoolSets = cc (e, p) in subst (ServerFault c pages lengths k) z w)), λ q. absurd (held q));
        unknown = (
          λ p. (held, let z : r ≡ UnknownEdition = cc (e, p) in (edition_of (set_at pages lengths k)).0 (refused_by_lem w ∙ ap Err z)),
          λ q. e ∙ ap Err (first_edition_lem q.1 w),
        );
        server = λ q a b j. (
          λ p. (
            held,
            let z : r ≡ q = let y = p.0 in cc (e, y) in
                let i : k ≡ j = sym s ∙ p.1 in subst (λ (x : ℕ). ServerFault c pages lengths x q) i (subst (ServerFault c pages lengths k) z w),
          ),
          λ g. let z = same_server w g.1 in (e ∙ ap Err z.1, s ∙ z.0),
        );
        differs = (
          λ p. absurd (no_19 (let z : r ≡ PoolDiffers = cc (e, p) in subst (ServerFault c pages lengths k) z w)),
          λ q. absurd (not_accepted w (q.1 k w.listed)),
        );
        accepted = (λ p. impossible (cc), λ q. absurd (not_accepted w (q.1 k w.listed)));
        unnamed = unnamed;
        empty = empty_table_lem;
      }
        where
          unnamed : (v ≡ Err PoolSets) ⊎ ((v ≡ Err PoolDiffers) ⊎ (v ≡ Ok tt)) → (pooled c pages lengths).server ≡ 0
          unnamed (inl p) = absurd (no_18 (let z : r ≡ PoolSets = cc (e, p) in subst (ServerFault c pages lengths k) z w))
          unnamed (inr (inl p)) = absurd (no_19 (let z : r ≡ PoolDiffers = cc (e, p) in subst (ServerFault c pages lengths k) z w))
          unnamed (inr (inr p)) = impossible (cc)
      go (differs held each d e s) = record {
        sets = (λ p. impossible (cc), λ q. absurd (held q));
        unknown = (λ p. impossible (cc), λ q. absurd (known q.1 (two_of held) each));
        server = λ r a b k. (λ p. absurd (b (let z = p.0 in cc (e, z))), λ q. absurd (not_accepted q.1 (each k q.1.listed)));
        differs = (λ p. (held, each, d), λ q. e);
        accepted = (λ p. impossible (cc), λ q. absurd (q.2 d));
        unnamed = λ w. s;
        empty = empty_table_lem;
      }
      go (accepted held each d e s) = record {
        sets = (λ p. impossible (cc), λ q. absurd (held q));
        unknown = (λ p. impossible (cc), λ q. absurd (known q.1 (two_of held) each));
        server = λ r a b k. (λ p. let z = p.0 in impossible (cc), λ q. absurd (not_accepted q.1 (each k q.1.listed)));
        differs = (λ p. impossible (cc), λ q. absurd (d q.2));
        accepted = (λ p. (held, each, d), λ q. e);
        unnamed = λ w. s;
        empty = empty_table_lem;
      }
