-- Where the counted entries of a page set are a beginning of another's, the other has every row of the first, with the same registers.
use Rattle.std.specs.Prelude.{◌≡◌, refl, Bool, true, false, List, [], ◌∷◌, ◌++◌, ℕ, ◌≤◌, eqb, ltb}
use Rattle.std.proofs.Common.{sym, ap, ◌∙◌}
use Rattle.bits.specs.Choice.{pick}
use Rattle.bits.specs.ChoiceLaws.{never_both}
use Rattle.pages.specs.Layout.{Entry}
use Rattle.pages.specs.Entries.{counted}
use Rattle.masking.specs.Kept.{places}
use Rattle.table.specs.Rows.{Rows, row, vacant}
use Rattle.collect.specs.FirstEntries.{place_of_entry, first_at, masked_at, mask_row, rows_of}
use Rattle.collect.specs.FirstEntriesLaws.{row_beyond}
use Rattle.rise.specs.BeginningLaws.{Begins}

-- B has every row of A, with the same registers; beyond the 88 places they agree
pub record Keeps (A B : Rows) : Type 0 where
  pub kept : (i : ℕ) → (A i).present ≡ true → B i ≡ A i
  pub beyond : (i : ℕ) → places ≤ i → B i ≡ A i

-- the first entry of a place in a beginning is the first of all
first_begins : (i : ℕ) (xs ys : List Entry) → (first_at i xs).present ≡ true → first_at i (xs ++ ys) ≡ first_at i xs
unfolding first_at
first_begins i [] ys e = absurd (never_both e refl)
first_begins i (x ∷ xs) ys e = go (eqb (place_of_entry x) i) (first_begins i xs ys) e
  where
    go : (b : Bool) → ((first_at i xs).present ≡ true → first_at i (xs ++ ys) ≡ first_at i xs)
        → (pick b (row x.registers) (first_at i xs)).present ≡ true
        → pick b (row x.registers) (first_at i (xs ++ ys)) ≡ pick b (row x.registers) (first_at i xs)
    go true ih e = refl
    go false ih e = ih e

-- where the counted entries of a page set are a beginning of another's, the other has every row of the first
pub rows_kept : (avic : Bool) (a b : List ℕ) → Begins (counted a) (counted b) → Keeps (rows_of avic a) (rows_of avic b)
unfolding rows_of
rows_kept avic a b begins = record {
  kept = λ i. at i (ltb i places) (first_at i (counted a)).present refl;
  beyond = λ i l. row_beyond avic b i l ∙ sym (row_beyond avic a i l);
}
  where
    at : (i : ℕ) (q p : Bool) → (first_at i (counted a)).present ≡ p
        → (pick q (pick p (row (masked_at avic i (first_at i (counted a)).result)) vacant) vacant).present ≡ true
        → pick q (mask_row avic i (first_at i (counted b))) vacant ≡ pick q (mask_row avic i (first_at i (counted a))) vacant
    at i true true e h =
        ap (mask_row avic i) (ap (first_at i) begins.whole ∙ first_begins i (counted a) begins.more e)
    at i true false e h = absurd (never_both h refl)
    at i false p e h = absurd (never_both h refl)
