-- An image read back. Document 01, "Image and lookup": byte 1, then leaf, EAX, EBX, ECX, EDX (4 bytes each, little-endian) for a row without
-- subleaf; byte 2, leaf, subleaf and the four for one with. Document 02, P1: "Rows of the image shall ascend by leaf as an unsigned number,
-- then by subleaf." So reading goes through the places in this order: the next bytes are the place's row, or the place has none.
use Rattle.std.specs.Prelude.{Bool, ◌&&◌, List, ℕ, zero, suc, eqb, leb, length, get_or, drop}
use Rattle.bits.specs.Choice.{pick}
use Rattle.pages.specs.Layout.{word_at, registers_at}
use Rattle.masking.specs.Kept.{places, leaf_at, indexed_at, subleaf_at}
use Rattle.table.specs.Rows.{Row, Rows, row, vacant}
use Rattle.table.specs.Table.{table_of, empty_table}
use Rattle.checks.specs.ExtendedState.{combined_mask}
use Rattle.image_read.specs.declared.ReadImage.{ReadImage}

-- whether bytes begin with a row's kind and leaf, and are no fewer than its n
unfoldable pub opens : List ℕ → ℕ → ℕ → ℕ → Bool
opens l n kind leaf = leb n (length l) && (eqb (get_or l 0 0) kind && eqb (word_at l 1) leaf)

-- whether bytes begin with the row of place i
unfoldable pub begins : List ℕ → ℕ → Bool
begins l i = pick (indexed_at i) (opens l 25 2 (leaf_at i).0 && eqb (word_at l 5) (subleaf_at i)) (opens l 21 1 (leaf_at i).0)

-- the row that bytes give place i, and the bytes after it
unfoldable pub row_read : List ℕ → ℕ → Row
row_read l i = pick (begins l i) (row (registers_at l (pick (indexed_at i) 9 5))) vacant

unfoldable pub after_row : List ℕ → ℕ → List ℕ
after_row l i = pick (begins l i) (drop (pick (indexed_at i) 25 21) l) l

-- what is left for place i and those after it
unfoldable pub left : List ℕ → ℕ → List ℕ
left s zero = s
left s (suc i) = after_row (left s i) i

abbrev pub rows_read : List ℕ → Rows
rows_read s i = row_read (left s i) i

-- bytes are an image where none is left over
unfoldable pub is_image : List ℕ → Bool
is_image s = eqb (length (left s places)) 0

-- The combined mask, which an image does not hold, is what document 01 makes of rows D.0 and D.1.
unfoldable pub read_image : List ℕ → ReadImage
read_image s = record {
  is_image = is_image s;
  table = pick (is_image s) (table_of (rows_read s) (combined_mask (rows_read s))) empty_table;
}
