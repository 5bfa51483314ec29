-- The first entry of a place wins, and entries of other places are passed over.
use Rattle.std.specs.Prelude.{◌≡◌, Bool, List, ◌∷◌, ℕ, ◌≤◌, ◌<◌}
use Rattle.std.proofs.Common.{eq-eqb, ne_eqb, lt-ltb, le-ltb}
use Rattle.bits.specs.ChoiceLaws.{pick_true, pick_false}
use Rattle.pages.specs.Layout.{Entry}
use Rattle.pages.specs.Entries.{counted}
use Rattle.masking.specs.Kept.{places}
use Rattle.table.specs.Rows.{row, vacant}
use Rattle.collect.specs.FirstEntries.{place_of_entry, first_at, word_row, firsts_of, mask_row, rows_of}

-- whatever comes after it
pub first_wins : (i : ℕ) (e : Entry) (es : List Entry) → place_of_entry e ≡ i → first_at i (e ∷ es) ≡ row e.registers
unfolding first_at
first_wins i e es p = pick_true _ _ (eq-eqb _ _ p)

pub first_passes : (i : ℕ) (e : Entry) (es : List Entry) → (place_of_entry e ≡ i → ⊥) → first_at i (e ∷ es) ≡ first_at i es
unfolding first_at
first_passes i e es n = pick_false _ _ (ne_eqb _ _ n)

pub first_of_place : (s : List ℕ) (i : ℕ) → i < places → firsts_of s i ≡ word_row (first_at i (counted s))
unfolding firsts_of
first_of_place s i l = pick_true _ _ (lt-ltb i places l)

pub row_of_place_lem : (avic : Bool) (s : List ℕ) (i : ℕ) → i < places → rows_of avic s i ≡ mask_row avic i (first_at i (counted s))
unfolding rows_of
row_of_place_lem avic s i l = pick_true _ _ (lt-ltb i places l)

-- beyond the 88 places there is none
pub row_beyond : (avic : Bool) (s : List ℕ) (i : ℕ) → places ≤ i → rows_of avic s i ≡ vacant
unfolding rows_of
row_beyond avic s i l = pick_false _ _ (le-ltb i places l)
