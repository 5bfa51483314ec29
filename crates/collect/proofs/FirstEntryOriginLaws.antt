-- Where first entries stand: a place has a number exactly where it has a row. So the masked first entries, laid out beside these numbers, are rows in
-- lent memory.
use Rattle.std.specs.Prelude.{◌≡◌, Bool, not, List, ℕ, ◌<◌, eqb, get_or}
use Rattle.std.proofs.Common.{sym, ap, ◌∙◌}
use Rattle.bits.specs.ListsLaws.{get_d_tabulate}
use Rattle.pages.specs.Entries.{counted}
use Rattle.masking.specs.Kept.{places}
use Rattle.memory.specs.Origin.{origin_number}
use Rattle.memory.specs.Memory.{is_there, rows_in, layout}
use Rattle.memory.proofs.MemoryLaws.{rows_laid}
use Rattle.table.specs.Rows.{Row}
use Rattle.collect.specs.FirstEntries.{first_at, rows_of}
use Rattle.collect.specs.FirstEntriesLaws.{row_of_place_lem, row_beyond}
use Rattle.collect.specs.FirstEntryOrigin.{stands_at, found_origins}
use Rattle.collect.specs.FirstEntryOriginLaws.{found_length, mask_present, stands_present}

pub stands_there : (s : List ℕ) (i : ℕ) → i < places → is_there (get_or (found_origins s) i 0) ≡ (first_at i (counted s)).present
unfolding found_origins
stands_there s i h =
    ap (λ (n : ℕ). not (eqb n 0)) (get_d_tabulate places (λ j. origin_number (stands_at j (counted s))) i 0 h) ∙ stands_present i (counted s)

has_row_lem : (avic : Bool) (s : List ℕ) (i : ℕ) → i < places → is_there (get_or (found_origins s) i 0) ≡ (rows_of avic s i).present
has_row_lem avic s i h =
    stands_there s i h
    ∙ sym (ap (λ (x : Row). x.present) (row_of_place_lem avic s i h) ∙ mask_present avic i (first_at i (counted s)))

-- what the walk leaves in its two arrays is the masked first entries, at every number
pub found_rows : (avic : Bool) (s : List ℕ) → rows_in (layout (λ i. (rows_of avic s i).result)) (found_origins s) ≡ rows_of avic s
found_rows avic s = rows_laid (rows_of avic s) (found_origins s) (found_length s) (has_row_lem avic s) (row_beyond avic s)
