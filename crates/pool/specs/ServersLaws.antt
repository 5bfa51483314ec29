-- The code's steps: the servers after the first, one a turn.
use Rattle.std.specs.Prelude.{◌≡◌, refl, Bool, true, List, ℕ, suc, ◌+◌, ◌*◌, ◌-◌, ◌≤◌, ◌<◌, replicate, Err, Ok}
use Rattle.std.proofs.Common.{sym, ◌∙◌}
use Rattle.std.proofs.Math.Path.{ap}
use native.Mathlib.Omega.{arith}
use Rattle.std.proofs.Math.ListN.{length}
use Rattle.bits.specs.Search.{Failing, lowest}
use Rattle.bits.specs.Search.Failing.{at, none}
use Rattle.bits.specs.SearchLaws.{lowest_passes, lowest_stops, lowest_ends}
use Rattle.masking.specs.Kept.{places}
use Rattle.table.specs.declared.Choices.{Choices}
use Rattle.table.specs.declared.Refusal.{Refusal}
use Rattle.table.specs.Rows.{Rows}
use Rattle.memory.specs.MemoryLaws.{layout_length}
use Rattle.build.specs.Build.{rows_for, answer}
use Rattle.collect.specs.FirstEntryOrigin.{found_origins}
use Rattle.register_masks.specs.Join.{pool}
use Rattle.pool.specs.Joins.{Joins}
use Rattle.pool.specs.PoolJoinLaws.{registers_of, alike_flags, flags_first, registers_next, flags_next}
use Rattle.pool.specs.Server.{ServerIn}
use Rattle.pool.specs.Sets.{set_at}
use Rattle.pool.specs.Servers.{server_verdict, server_rows, is_accepted, first_refused, refused_by, servers_verdict, number_of, joined_to, JoinsRest}
use Rattle.table.specs.Verdict.{Verdict}

-- of a part of the slice that is server k's set
module _ (c : Choices) (pages lengths : List ℕ) (k : ℕ) {s w o : List ℕ} {v : Verdict} (part : s ≡ set_at pages lengths k)
    (e : ServerIn c s v w o) where
  pub part_verdict : {x : Verdict} → v ≡ x → server_verdict c pages lengths k ≡ x
  part_verdict p = sym (e.verdict ∙ ap (λ (t : List ℕ). (answer c t).verdict) part) ∙ p

  pub part_rows : v ≡ Ok tt → w ≡ registers_of (server_rows c pages lengths k)
  part_rows p = e.registers p ∙ ap (λ (t : List ℕ). registers_of (rows_for c t)) part

  pub part_stands : v ≡ Ok tt → o ≡ found_origins (set_at pages lengths k)
  part_stands p = e.stands p ∙ ap found_origins part

-- ---- the servers after the first

module _ (c : Choices) (pages lengths : List ℕ) where
  abbrev f : ℕ → Rows
  f = server_rows c pages lengths

  abbrev test : ℕ → Bool
  test k = is_accepted (server_verdict c pages lengths k)

  -- before server k: none is refused so far, and their entries are joined
  pub record Joining (k : ℕ) (w : List ℕ) (alike : List Bool) : Type 0 where
    pub passed : first_refused c pages lengths ≡ lowest test k (length lengths - k)
    pub rows : w ≡ registers_of (pool f (k - 1))
    pub flags : alike ≡ alike_flags f (k - 1)

  pub joining_starts : 2 ≤ length lengths → server_verdict c pages lengths 0 ≡ Ok tt → {w : List ℕ} → w ≡ registers_of (f 0)
      → {alike : List Bool} → alike ≡ replicate places true → Joining 1 w alike
  unfolding first_refused pool
  joining_starts l e r a =
      let whole : length lengths ≡ length lengths - 0 = omega arith in
      record {
        passed = ap (lowest test 0) whole ∙ lowest_passes test (length lengths) 0 (omega arith) (ap is_accepted e);
        rows = r;
        flags = a ∙ flags_first f;
      }

  pub joining_length : {k : ℕ} {w : List ℕ} {alike : List Bool} → Joining k w alike → length w ≡ 4 * places
  joining_length {k} j = ap length j.rows ∙ layout_length (λ i. (pool f (k - 1) i).result)

  -- u are the registers of server k
  pub joining_next : (k : ℕ) {w u v : List ℕ} {alike found : List Bool} → 1 ≤ k → k < length lengths → server_verdict c pages lengths k ≡ Ok tt
      → u ≡ registers_of (f k) → Joins w u alike v found → Joining k w alike → Joining (k + 1) v found
  joining_next k {w} {u} l h e q b j =
      let s : k ≡ suc (k - 1) = omega arith in
      let s₁ : suc (k - 1) ≡ k + 1 - 1 = omega arith in
      let q₁ : u ≡ registers_of (f (suc (k - 1))) = q ∙ ap (λ (n : ℕ). registers_of (f n)) s in
      record {
        passed = j.passed ∙ lowest_passes test (length lengths) k h (ap is_accepted e);
        rows = b.registers ∙ registers_next f (k - 1) j.rows q₁ ∙ ap (λ (n : ℕ). registers_of (pool f n)) s₁;
        flags = b.flags ∙ flags_next f (k - 1) j.rows q₁ j.flags ∙ ap (alike_flags f) s₁;
      }

  -- what was found is what the loop gives
  joins : {x : Failing} {v : Verdict} {w : List ℕ} {alike : List Bool} → first_refused c pages lengths ≡ x
      → v ≡ refused_by x (server_verdict c pages lengths) → w ≡ registers_of (pool f (joined_to x lengths)) → alike ≡ alike_flags f (joined_to x lengths)
      → JoinsRest c pages lengths (record { verdict = v; server = number_of x; alike = alike }) w
  unfolding servers_verdict
  joins p e r a =
      let v = e ∙ ap (λ (y : Failing). refused_by y (server_verdict c pages lengths)) (sym p) in
      let a₁ = a ∙ ap (λ (y : Failing). alike_flags f (joined_to y lengths)) (sym p) in
      record {
        answer = λ t. record { verdict = v t; server = number_of (sym p t); alike = a₁ t };
        registers = r ∙ ap (λ (y : Failing). registers_of (pool f (joined_to y lengths))) (sym p);
      }

  -- server k is refused
  pub joining_refuses : (k : ℕ) {w : List ℕ} {alike : List Bool} {r : Refusal} → k < length lengths → server_verdict c pages lengths k ≡ Err r
      → Joining k w alike → JoinsRest c pages lengths (record { verdict = Err r; server = k; alike = alike }) w
  joining_refuses k l e j =
      joins {x = at k} (j.passed ∙ lowest_stops test (length lengths) k l (ap is_accepted e)) (sym e) j.rows j.flags

  -- all servers pass
  pub joining_ends : (k : ℕ) {w : List ℕ} {alike : List Bool} → k ≡ length lengths → Joining k w alike
      → JoinsRest c pages lengths (record { verdict = (Ok tt); server = 0; alike = alike }) w
  joining_ends k e j =
      joins {x = none} {v = (Ok tt)} (j.passed ∙ lowest_ends test (length lengths) k (omega arith)) refl
      (j.rows ∙ ap (λ (n : ℕ). registers_of (pool f (n - 1))) e) (j.flags ∙ ap (λ (n : ℕ). alike_flags f (n - 1)) e)
