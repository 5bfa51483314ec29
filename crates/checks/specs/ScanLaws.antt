-- The loops that look for the first row that is missing: a turn passes a number, or stops there; after the last, all is accepted.
use Rattle.std.specs.Prelude.{◌≡◌, refl, Bool, true, false, not, ◌&&◌, List, ℕ, zero, suc, ◌+◌, ◌-◌, ◌≤◌, ◌<◌, ltb, Err, Ok}
use Rattle.std.proofs.Common.{sym, ◌∙◌, arith, ltb-true}
use Rattle.std.proofs.Math.Path.{ap}
use Rattle.std.specs.Int.Bits.{bit_and}
use Rattle.std.specs.Int.Count.{count_trailing_zeros}
use Rattle.bits.specs.Choice.{pick}
use Rattle.bits.specs.Search.{Failing, lowest, every}
use Rattle.bits.specs.SearchLaws.{every_at, lowest_all, lowest_passes, lowest_stops}
use Rattle.bits.specs.Lists.{tabulate}
use Rattle.bits.specs.ListsLaws.{tabulate_at}
use Rattle.bits.specs.Bits.{has}
use Rattle.masking.specs.Kept.{kept_leaves, place_of, places, slot, leaf_at, indexed_at, subleaf_at}
use Rattle.masking.specs.Place
use Rattle.table.specs.declared.Refusal.{Refusal}
use Rattle.table.specs.declared.Refusal.TheVariants.{MissingRequiredResult}
use Rattle.table.specs.Rows.{Rows}
use Rattle.table.specs.Numbers.{subleaf_of}
use Rattle.checks.specs.Required.{common_required_leaves, snp_required_leaves, required_at, required_count, place_required}
use Rattle.checks.specs.ExtendedState.{supplied}
use Rattle.checks.specs.Checks.{refuse_at, missing_required, missing_component, components_of}
use Rattle.checks.specs.LowestLaws.{Left, Taken, left_taken, left_none}
use Rattle.table.specs.Verdict.{Verdict}

-- refused at the first of the numbers from k up to n that fails the test
unfoldable pub refuse_from : (ℕ → Bool) → (ℕ → Refusal) → ℕ → ℕ → Verdict
refuse_from test reason n k = refuse_at (lowest test k (n - k)) reason

module _ (test : ℕ → Bool) (reason : ℕ → Refusal) (n k : ℕ) where
  pub scan_passes : k < n → test k ≡ true → refuse_from test reason n k ≡ refuse_from test reason n (k + 1)
  unfolding refuse_from
  scan_passes l e = ap (λ (f : Failing). refuse_at f reason) (lowest_passes test n k l e)

  pub scan_stops : k < n → test k ≡ false → refuse_from test reason n k ≡ Err (reason k)
  unfolding refuse_from
  scan_stops l e = ap (λ (f : Failing). refuse_at f reason) (lowest_stops test n k l e)

  pub scan_ends : ((j : ℕ) → k ≤ j → j < n → test j ≡ true) → refuse_from test reason n k ≡ Ok tt
  unfolding refuse_from
  scan_ends f = rw (lowest_all test k (n - k) (λ j l h. f j l (omega arith)))

-- ---- the required leaves, as the code has their places

unfoldable pub required_places : List ℕ
required_places = tabulate required_count place_required

all_placed : every (λ j. ltb (place_required j) places) required_count ≡ true
unfolding place_required required_at common_required_leaves snp_required_leaves place_of kept_leaves
all_placed = refl

pub required_place : (j : ℕ) → j < required_count → place_required j < places
required_place j l = ltb-true (place_required j) places (every_at (λ i. ltb (place_required i) places) required_count all_placed j l)

-- the refusal of a table without a row at place i
abbrev pub missing_at : ℕ → Refusal
missing_at i = MissingRequiredResult (leaf_at i) (subleaf_of (indexed_at i) (subleaf_at i))

-- the place of a required leaf leads back to it
pub required_missing : (j : ℕ) → j < required_count → missing_at (place_required j) ≡ missing_required j
unfolding place_required required_at common_required_leaves snp_required_leaves place_of slot kept_leaves tabulate
required_missing j l = tabulate_at required_count (λ i. missing_at (place_required i)) missing_required refl j l

-- ---- the subleaves that a mask needs

abbrev pub components_from : Rows → ℕ → ℕ → Verdict
components_from m x k = refuse_from (supplied m x) missing_component 64 k

-- one turn, at subleaf k: it is needed and not there, or it is not
needed_missing : (b p : Bool) → (b && not p) ≡ true → pick b p true ≡ false
needed_missing true true e = sym e
needed_missing true false e = refl
needed_missing false p e = sym e

not_missing : (b p : Bool) → (b && not p) ≡ false → pick b p true ≡ true
not_missing true true e = refl
not_missing true false e = sym e
not_missing false p e = refl

module _ (m : Rows) (x k : ℕ) {used : Bool} (h : k < 64) (e : used ≡ has k x) where
  pub component_passes : (used && not (m (Place.extended_state k)).present) ≡ false → components_from m x k ≡ components_from m x (k + 1)
  component_passes t = scan_passes (supplied m x) missing_component 64 k h (not_missing (has k x) (m (Place.extended_state k)).present (rw e at t))

  pub component_stops : (used && not (m (Place.extended_state k)).present) ≡ true → Err (missing_component k) ≡ components_from m x k
  component_stops t =
      sym (scan_stops (supplied m x) missing_component 64 k h (needed_missing (has k x) (m (Place.extended_state k)).present (rw e at t)))

-- n subleaves from k on that the mask does not have
components_skip : (m : Rows) (x n k : ℕ) → k + n ≤ 64 → ((j : ℕ) → k ≤ j → j < k + n → has j x ≡ false) → components_from m x k ≡ components_from m x (k + n)
components_skip m x zero k u f = let e : k ≡ k + 0 = omega arith in ap (components_from m x) e
components_skip m x (suc n) k u f =
    let e : k + 1 + n ≡ k + suc n = omega arith in
    component_passes m x k (omega arith) refl (rw (f k (omega arith) (omega arith)))
    ∙ components_skip m x n (k + 1) (omega arith) (λ j a b. f j (omega arith) (omega arith))
    ∙ ap (components_from m x) e

-- what is left of the mask is its bits from k up, and what is refused from there on is what is refused
pub record Scanning (m : Rows) (x rest : ℕ) : Type 0 where
  pub k : ℕ
  pub from : components_of m x ≡ components_from m x k
  pub left : Left x rest k

module _ (m : Rows) (x : ℕ) where
  pub scanning_starts : {rest : ℕ} → Left x rest 2 → Scanning m x rest
  unfolding components_of refuse_from
  scanning_starts l = record { k = 2; from = refl; left = l }

  module _ {rest : ℕ} (d : Scanning m x rest) where
    module _ (n : ¬ (rest ≡ 0)) where
      abbrev z : ℕ
      z = count_trailing_zeros 64 rest

      pub scanning_taken : Taken x rest d.k z
      scanning_taken = left_taken d.left n

      here : components_of m x ≡ components_from m x z
      here =
          let t : Taken x rest d.k z = scanning_taken in
          let e : d.k + (z - d.k) ≡ z = omega (arith, t.from) in
          d.from
          ∙ components_skip m x (z - d.k) d.k (omega (arith, t.from, t.inside)) (λ j a b. t.between j a (omega (arith, t.from)))
          ∙ ap (components_from m x) e

      module _ {there : Bool} (f : there ≡ (m (Place.extended_state z)).present) where
        pub scanning_next : there ≡ true → Scanning m x (bit_and rest (rest - 1))
        scanning_next t = record {
          k = z + 1;
          from = here ∙ component_passes m x z scanning_taken.inside (sym scanning_taken.here) (rw (sym f ∙ t));
          left = scanning_taken.next;
        }

        pub scanning_stops : there ≡ false → Err (missing_component z) ≡ components_of m x
        scanning_stops t = component_stops m x z scanning_taken.inside (sym scanning_taken.here) (rw (sym f ∙ t)) ∙ sym here

    pub scanning_ends : rest ≡ 0 → (Ok tt) ≡ components_of m x
    scanning_ends e = sym (scan_ends (supplied m x) missing_component 64 d.k (λ j l u. rw (left_none d.left e j l))) ∙ sym d.from
