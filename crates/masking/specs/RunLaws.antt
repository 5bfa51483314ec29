-- Laws of runs of places. One computed equation proves that two functions agree on a run of numbers. A lawful run gives each of its places its
-- leaf and its subleaf.
use Rattle.std.specs.Prelude.{◌≡◌, Bool, true, not, ◌&&◌, ℕ, ◌+◌, ◌-◌, ◌^◌, ◌≤◌, ◌<◌, eqb, leb, ltb}
use Rattle.std.proofs.Common.{sym, ap}
use Rattle.std.proofs.Math.Path.{subst}
use Rattle.std.proofs.Math.Bool.{false}
use native.Mathlib.Omega.{arith}
use borrow.Author.Tests.{eqb-true, leb-true, ltb-true, not-true}
use Rattle.bits.specs.Choice.{pick}
use Rattle.bits.specs.ChoiceLaws.{and_left, and_right}
use Rattle.bits.specs.Lists.{tabulate}
use Rattle.bits.specs.ListsLaws.{tabulate_at}
use Rattle.bits.specs.SearchLaws.{every_at}
use Rattle.x86defs.specs.Functions.{function}
use Rattle.masking.specs.declared.run.Run.{Run}
use Rattle.masking.specs.Kept.{Slot, places, slot, leaf_at, indexed_at, subleaf_at}
use Rattle.masking.specs.Runs.{run_leaf, stands, lawful_run}

-- two functions that give the same list from a to b, without b, agree at each number of that run
pub on_run {ℓ} : {A : Type ℓ} (f g : ℕ → A) {a b i : ℕ} → a ≤ i → i < b
    → tabulate (b - a) (λ j. f (a + j)) ≡ tabulate (b - a) (λ j. g (a + j)) → f i ≡ g i
on_run f g {a} {b} {i} low high e =
    let back : a + (i - a) ≡ i = omega arith in
    subst (λ (j : ℕ). f j ≡ g j) back (tabulate_at (b - a) (λ j. f (a + j)) (λ j. g (a + j)) e (i - a) (omega arith))

-- ---- the runs of the code

-- what `stands` says of the subleaf of a slot, taken apart
indexed_stands : (b : Bool) (k : ℕ) (t : Slot) → pick b (t.indexed && eqb t.subleaf k) (not t.indexed && eqb t.subleaf 0) ≡ true
    → b ≡ t.indexed
indexed_stands true k t e = sym (and_left t.indexed _ e)
indexed_stands false k t e = sym (not-true t.indexed (and_left _ _ e))

subleaf_stands : (b : Bool) (k : ℕ) (t : Slot) → pick b (t.indexed && eqb t.subleaf k) (not t.indexed && eqb t.subleaf 0) ≡ true
    → pick b k 0 ≡ t.subleaf
subleaf_stands true k t e = sym (eqb-true t.subleaf k (and_right t.indexed _ e))
subleaf_stands false k t e = sym (eqb-true t.subleaf 0 (and_right (not t.indexed) _ e))

module _ (g : Run) (lawfully : lawful_run g ≡ true) where
  pub run_end : g.first + g.count ≤ places
  unfolding lawful_run
  run_end = leb-true _ _ (and_left _ _ lawfully)

  pub run_leaf_lem : g.leaf.0 + places < 2 ^ 32
  unfolding lawful_run
  run_leaf_lem = ltb-true _ _ (and_left _ _ (and_right (leb (g.first + g.count) places) _ lawfully))

  module _ {i : ℕ} (low : g.first ≤ i) (high : i < g.first + g.count) where
    run_stands : stands g (i - g.first) (slot false i) ≡ true
    unfolding lawful_run
    run_stands =
        let all = and_right (ltb (g.leaf.0 + places) (2 ^ 32)) _ (and_right (leb (g.first + g.count) places) _ lawfully) in
        let back : g.first + (i - g.first) ≡ i = omega arith in
        subst (λ (j : ℕ). stands g (i - g.first) (slot false j) ≡ true) back (every_at (λ k. stands g k (slot false (g.first + k))) g.count all (i - g.first) (omega arith))

    pub leaf_in_run : run_leaf g (i - g.first) ≡ leaf_at i
    leaf_in_run = sym (ap function (eqb-true (leaf_at i).0 (run_leaf g (i - g.first)).0 (and_left _ _ run_stands)))

    pub indexed_in_run : g.indexed ≡ indexed_at i
    indexed_in_run = indexed_stands g.indexed (i - g.first) (slot false i) (and_right (eqb (leaf_at i).0 (run_leaf g (i - g.first)).0) _ run_stands)

    pub subleaf_in_run : pick g.indexed (i - g.first) 0 ≡ subleaf_at i
    subleaf_in_run = subleaf_stands g.indexed (i - g.first) (slot false i) (and_right (eqb (leaf_at i).0 (run_leaf g (i - g.first)).0) _ run_stands)
