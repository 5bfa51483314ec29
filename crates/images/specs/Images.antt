-- Document 02, P1: "Rows of the image shall ascend by leaf as an unsigned number, then by subleaf. The leaf order is no longer free, so equal
-- tables now mean equal images."
use Rattle.std.specs.Prelude.{◌≡◌, Bool, true, List, [], ◌∷◌, ◌++◌, ◌↔◌, ℕ, ◌<◌, Ok}
use Rattle.bits.specs.Lists.{keep_if}
use Rattle.bits.specs.Ascending.{Ascending}
use Rattle.masking.specs.Kept.{places}
use Rattle.table.specs.declared.Choices.{Choices}
use Rattle.table.specs.declared.CpuidResults.{CpuidResults}
use Rattle.table.specs.Table.{row_in}
use Rattle.table.specs.Order.{Precedes, row_order}
use Rattle.build.specs.Build.{answer}
use Rattle.image.specs.Image.{row_bytes, image}

-- the places whose rows a table has, in the order of its image, and the bytes of rows one after another
abbrev pub rows_in_order : CpuidResults → List ℕ
rows_in_order t = keep_if (λ i. (row_in t i).present) row_order

unfoldable pub bytes_of_rows : CpuidResults → List ℕ → List ℕ
bytes_of_rows t [] = []
bytes_of_rows t (i ∷ is) = row_bytes i (row_in t i).result ++ bytes_of_rows t is

-- the image of a table is the bytes of its rows, and these ascend
pub record ImageAscends (t : CpuidResults) : Type 0 where
  pub bytes : image t ≡ bytes_of_rows t (rows_in_order t)
  pub ascend : Ascending Precedes (rows_in_order t)

-- two tables have the same rows and the same combined mask
pub record SameTable (t u : CpuidResults) : Type 0 where
  pub rows : (i : ℕ) → i < places → row_in t i ≡ row_in u i
  pub mask : t.max_extended_state ≡ u.max_extended_state

-- of two accepted page sets, each under a choice of its own
abbrev pub EqualImages : Type 0
EqualImages = (chosen chosen' : Choices) (s s' : List ℕ) → (answer chosen s).verdict ≡ Ok tt → (answer chosen' s').verdict ≡ Ok tt
    → (image (answer chosen s).table ≡ image (answer chosen' s').table) ↔ SameTable (answer chosen s).table (answer chosen' s').table
