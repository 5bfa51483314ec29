-- What memory holds after an image is read: the table of `read_image`, count and mask too.
use Rattle.std.specs.Prelude.{◌≡◌, refl, Bool, List, ℕ, ◌<◌, get_or}
use Rattle.std.proofs.Common.{ap, ◌∙◌}
use Rattle.std.proofs.Math.Bool.{true, false}
use Rattle.bits.specs.Choice.{pick}
use Rattle.bits.specs.ListsLaws.{get_d_tabulate}
use Rattle.masking.specs.Kept.{places}
use Rattle.table.specs.declared.CpuidResults.{CpuidResults}
use Rattle.table.specs.Table.{table_of, empty_table, row_in}
use Rattle.table.specs.Table as Tables
use Rattle.checks.specs.ExtendedState.{combined_mask}
use Rattle.memory.specs.Memory.{row_of, is_there, rows_in}
use Rattle.memory.proofs.MemoryLaws.{layout_row}
use Rattle.memory.specs.Held.{whole_of, held_in, whole_row_lem, whole_ext, empty_whole}
use Rattle.image_read.specs.ReadImage.{rows_read, is_image, read_image}
use Rattle.image_read.specs.ReadIn.{origin_of_read, ReadIn}

read_there : (p : Bool) → is_there (origin_of_read p) ≡ p
read_there true = refl
read_there false = refl

module _ {s : List ℕ} {r : Bool} {w o : List ℕ} (h : ReadIn s r w o) where
  abbrev t : CpuidResults
  t = (read_image s).table

  -- row by row
  pub read_row : (i : ℕ) → i < places → rows_in w o i ≡ row_in t i
  read_row i l =
      let p : is_there (get_or o i 0) ≡ (row_in t i).present =
      ap (λ (k : List ℕ). is_there (get_or k i 0)) h.origins
      ∙ ap is_there (get_d_tabulate places (λ j. origin_of_read (row_in t j).present) i 0 l)
      ∙ read_there (row_in t i).present in
      let q : row_of w i ≡ (row_in t i).result =
      ap (λ (k : List ℕ). row_of k i) h.registers ∙ layout_row (λ j. (row_in t j).result) i l in
      λ k. record { present = p k; result = q k }

  whole : whole_of (Tables.rows_of_table t) ≡ t
  unfolding read_image
  whole = go (is_image s)
    where
      go : (b : Bool)
          → whole_of (Tables.rows_of_table (pick b (table_of (rows_read s) (combined_mask (rows_read s))) empty_table))
          ≡ pick b (table_of (rows_read s) (combined_mask (rows_read s))) empty_table
      go true = whole_ext (λ i l. whole_row_lem (rows_read s) i l)
      go false = empty_whole

  -- and whole
  pub read_held : held_in w o ≡ (read_image s).table
  read_held = whole_ext read_row ∙ whole
