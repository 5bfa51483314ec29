-- An image read into lent memory: the rows that `read_image` gives, each with the number that says that its origin is not known.
use Rattle.std.specs.Prelude.{◌≡◌, Bool, List, ℕ, ◌≤◌, length, drop}
use Rattle.bits.specs.Choice.{pick}
use Rattle.bits.specs.Lists.{tabulate}
use Rattle.masking.specs.Kept.{places}
use Rattle.table.specs.Table.{row_in}
use Rattle.memory.specs.Origin.{origin_number}
use Rattle.memory.specs.Origin.Origin.{neither, not_known}
use Rattle.memory.specs.Memory.{layout}
use Rattle.image_read.specs.ReadImage.{left, rows_read, read_image}

-- an image holds no origins
abbrev pub origin_of_read : Bool → ℕ
origin_of_read p = pick p (origin_number not_known) (origin_number neither)

-- what memory has after reading, and whether the bytes are an image
pub record ReadIn (s : List ℕ) (r : Bool) (w o : List ℕ) : Type 0 where
  pub image : r ≡ (read_image s).is_image
  pub registers : w ≡ layout (λ i. (row_in (read_image s).table i).result)
  pub origins : o ≡ tabulate places (λ i. origin_of_read (row_in (read_image s).table i).present)

-- the rows that bytes begin with, and the index after them
pub record FoundIn (s : List ℕ) (end : ℕ) (w o : List ℕ) : Type 0 where
  pub inside : end ≤ length s
  pub rest : drop end s ≡ left s places
  pub registers : w ≡ layout (λ i. (rows_read s i).result)
  pub origins : o ≡ tabulate places (λ i. origin_of_read (rows_read s i).present)
