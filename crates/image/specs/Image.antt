-- Document 01, "Image and lookup": byte 1, then leaf, EAX, EBX, ECX, EDX (4 bytes each, little-endian) for a row without subleaf; byte 2,
-- leaf, subleaf and the four for one with. Document 02, P1: "Rows of the image shall ascend by leaf as an unsigned number, then by subleaf."
use Rattle.std.specs.Prelude.{List, [], ◌∷◌, ◌++◌, ℕ}
use Rattle.bits.specs.Choice.{pick}
use Rattle.x86defs.specs.declared.CpuidResult.{CpuidResult}
use Rattle.masking.specs.Kept.{leaf_at, indexed_at, subleaf_at}
use Rattle.table.specs.declared.CpuidResults.{CpuidResults}
use Rattle.table.specs.Rows.{Row}
use Rattle.table.specs.Table.{row_in}
use Rattle.table.specs.Order.{row_order}
use Rattle.buffer.specs.Front.{bytes_of, result_bytes}

-- a row of place i
abbrev pub row_bytes : ℕ → CpuidResult → List ℕ
row_bytes i r =
    pick (indexed_at i) (2 ∷ bytes_of (leaf_at i).0 ++ bytes_of (subleaf_at i) ++ result_bytes r) (1 ∷ bytes_of (leaf_at i).0 ++ result_bytes r)

-- nothing for a row that is not there
abbrev pub place_bytes : ℕ → Row → List ℕ
place_bytes i r = pick r.present (row_bytes i r.result) []

-- the rows of a table, in an order of the places
unfoldable pub image_in : List ℕ → CpuidResults → List ℕ
image_in [] t = []
image_in (i ∷ is) t = place_bytes i (row_in t i) ++ image_in is t

-- the rows ascend by leaf and subleaf
unfoldable pub image : CpuidResults → List ℕ
image t = image_in row_order t
