-- Where first entries stand: a place has a number exactly where it has a row. So the masked first entries, laid out beside these numbers, are rows in
-- lent memory.
use Rattle.std.specs.Prelude.{◌≡◌, refl, Bool, true, false, not, List, [], ◌∷◌, ℕ, ◌+◌, ◌*◌, ◌^◌, ◌<◌, eqb, length}
use Rattle.std.proofs.Common.{ap, arith, ne_eqb}
use Rattle.bits.specs.Choice.{pick}
use Rattle.bits.specs.ListsLaws.{length_tabulate}
use Rattle.pages.specs.Layout.{Entry, pages_in, count_of, counts_fit}
use Rattle.pages.specs.LayoutLaws.{counts_fit_at}
use Rattle.pages.specs.Entries.{counted}
use Rattle.masking.specs.Kept.{places}
use Rattle.memory.specs.Origin.{origin_number}
use Rattle.memory.specs.Origin.Origin.{entry}
use Rattle.table.specs.Rows.{Row, row, vacant}
use Rattle.collect.specs.FirstEntries.{place_of_entry, first_at, masked_at, mask_row}
use Rattle.collect.specs.FirstEntryOrigin.{stands_at, found_origins}

-- the number of any entry fits 64 bits: its page lies inside the bytes
pub number_fits : (s : List ℕ) → counts_fit s ≡ true → length s < 2 ^ 64 → (p q : ℕ) → p < pages_in s → q < count_of s p → 4 + 64 * p + q < 2 ^ 64
number_fits s fit short p q h l = omega (arith, counts_fit_at s fit p h)

pub stands_present : (i : ℕ) (es : List Entry) → not (eqb (origin_number (stands_at i es)) 0) ≡ (first_at i es).present
unfolding stands_at first_at
stands_present i [] = refl
stands_present i (e ∷ es) = go (eqb (place_of_entry e) i) (stands_present i es)
  where
    go : (b : Bool) → not (eqb (origin_number (stands_at i es)) 0) ≡ (first_at i es).present
        → not (eqb (origin_number (pick b (entry e.page e.position) (stands_at i es))) 0)
        ≡ (pick b (row e.registers) (first_at i es)).present
    go true h = ap not (ne_eqb (4 + 64 * e.page + e.position) 0 (λ z. omega arith))
    go false h = h

pub mask_present : (avic : Bool) (i : ℕ) (r : Row) → (mask_row avic i r).present ≡ r.present
mask_present avic i r = go r.present
  where
    go : (b : Bool) → (pick b (row (masked_at avic i r.result)) vacant).present ≡ b
    go true = refl
    go false = refl

pub found_length : (s : List ℕ) → length (found_origins s) ≡ places
unfolding found_origins
found_length s = length_tabulate places (λ i. origin_number (stands_at i (counted s)))
