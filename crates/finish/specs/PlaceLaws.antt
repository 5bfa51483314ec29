-- The 88 places by what becomes of them: made here, always there in an accepted table, or a D subleaf from 2 up. Each is one test that
-- is computed over all places or over both required lists.
use Rattle.std.specs.Prelude.{◌≡◌, refl, Bool, true, false, ◌&&◌, ℕ, zero, suc, ◌-◌, ◌≤◌, ◌<◌, eqb, ltb, leb}
use Rattle.std.proofs.Common.{ap, arith, ltb-true, leb-true, eqb-true, le-leb, lt-ltb}
use Rattle.bits.specs.Choice.{pick}
use Rattle.bits.specs.ChoiceLaws.{and_left, and_right, if_holds}
use Rattle.bits.specs.Search.{every}
use Rattle.bits.specs.SearchLaws.{every_at}
use Rattle.masking.specs.Kept.{kept_leaves, place_of, places}
use Rattle.masking.specs.Place
use Rattle.checks.specs.Required.{common_required_leaves, snp_required_leaves, required_at, required_count, place_required}
use Rattle.finish.specs.Finish.{Needed, Rule, rule_at}
use Rattle.finish.specs.Finish.Needed.{version_and_features, extended_features, thread_level_row, core_level_row, extended_state0, extended_state1, extended_version_and_features, extended_address_space_sizes, untouched}
use Rattle.finish.specs.Finish.Rule.{made as madeRule, needed, component}
use Rattle.finish.specs.Kinds.{from_entry}

-- the rules of rows that every accepted table has from an entry
abbrev pub always : Rule → Bool
always (madeRule t) = false
always (needed t) = true
always (component k) = false

-- the rule of one required row; the rules are told apart by a number
abbrev needed_number : Needed → ℕ
needed_number version_and_features = 0
needed_number extended_features = 1
needed_number thread_level_row = 2
needed_number core_level_row = 3
needed_number extended_state0 = 4
needed_number extended_state1 = 5
needed_number extended_version_and_features = 6
needed_number extended_address_space_sizes = 7
needed_number untouched = 8

abbrev pub is_needed : Needed → Rule → Bool
is_needed n (madeRule t) = false
is_needed n (needed t) = eqb (needed_number n) (needed_number t)
is_needed n (component k) = false

pub always_from_entry : (t : Rule) → always t ≡ true → from_entry t ≡ true
always_from_entry (madeRule t) e = e
always_from_entry (needed t) e = refl
always_from_entry (component k) e = refl

-- ---- the required lists hold exactly these places

abbrev listed_test : ℕ → Bool
listed_test j = ltb (place_required j) places && always (rule_at (place_required j))

all_listed : every listed_test required_count ≡ true
unfolding place_required required_at common_required_leaves snp_required_leaves place_of kept_leaves
all_listed = refl

pub required_place : (j : ℕ) → j < required_count → (place_required j < places) × (always (rule_at (place_required j)) ≡ true)
required_place j l =
    let t : listed_test j ≡ true = every_at listed_test required_count all_listed j l in
    (ltb-true (place_required j) places (and_left _ _ t), and_right (ltb (place_required j) places) _ t)

-- where a place stands in the lists: the first of the n positions from j on
abbrev position_from : ℕ → ℕ → ℕ → ℕ
position_from i j zero = j
position_from i j (suc n) = pick (eqb (place_required j) i) j (position_from i (suc j) n)

abbrev pub position : ℕ → ℕ
position i = position_from i 0 required_count

abbrev found_test : ℕ → Bool
found_test i = pick (always (rule_at i)) (ltb (position i) required_count && eqb (place_required (position i)) i) true

all_found : every found_test places ≡ true
unfolding place_required required_at common_required_leaves snp_required_leaves place_of kept_leaves
all_found = refl

pub always_required : (i : ℕ) → i < places → always (rule_at i) ≡ true → (position i < required_count) × (place_required (position i) ≡ i)
always_required i l e =
    let t : (ltb (position i) required_count && eqb (place_required (position i)) i) ≡ true =
    if_holds (always (rule_at i)) _ (every_at found_test places all_found i l) e in
    (ltb-true (position i) required_count (and_left _ _ t), eqb-true (place_required (position i)) i (and_right (ltb (position i) required_count) _ t))

-- ---- the D subleaves

pub component_rule : (k : ℕ) → 2 ≤ k → k < 64 → rule_at (Place.extended_state k) ≡ component k
component_rule k l u =
    rw (
      le-leb (Place.extended_state 2) (Place.extended_state k) (omega arith),
      lt-ltb (Place.extended_state k) (Place.extended_state 64) (omega arith),
    )
    (ap component (omega arith))

-- ---- every place is of one of three sorts

pub data Sort (i : ℕ) : Type 0 where
  made : from_entry (rule_at i) ≡ false → Sort i
  required : always (rule_at i) ≡ true → Sort i
  subleaf : (k : ℕ) → i ≡ Place.extended_state k → 2 ≤ k → k < 64 → Sort i

abbrev sort_test : ℕ → Bool
sort_test i = pick (always (rule_at i)) true (pick (from_entry (rule_at i)) (leb (Place.extended_state 2) i && ltb i (Place.extended_state 64)) true)

all_sorted : every sort_test places ≡ true
all_sorted = refl

pub sort : (i : ℕ) → i < places → Sort i
sort i l = go (always (rule_at i)) (from_entry (rule_at i)) refl refl (every_at sort_test places all_sorted i l)
  where
    go : (p q : Bool) → always (rule_at i) ≡ p → from_entry (rule_at i) ≡ q
        → pick p true (pick q (leb (Place.extended_state 2) i && ltb i (Place.extended_state 64)) true) ≡ true → Sort i
    go true q e f t = required e
    go false false e f t = made f
    go false true e f t =
        let a : Place.extended_state 2 ≤ i = leb-true (Place.extended_state 2) i (and_left _ _ t) in
        let b : i < Place.extended_state 64 = ltb-true i (Place.extended_state 64) (and_right (leb (Place.extended_state 2) i) _ t) in
        subleaf (i - Place.extended_state 0) (omega arith) (omega arith) (omega arith)
