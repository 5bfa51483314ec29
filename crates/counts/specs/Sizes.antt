-- How many rows a table has and how many bytes its image, where its rows are known by the mask alone.
use Rattle.std.specs.Prelude.{◌≡◌, ℕ, ◌+◌, ◌*◌, ◌<◌, length}
use Rattle.std.proofs.Math.Path.{ap}
use Rattle.std.proofs.Common.{◌∙◌, arith}
use Rattle.std.proofs.Math.Bool.{false}
use Rattle.bits.specs.Lists.{sum_to, one}
use Rattle.bits.specs.ListsLaws.{get_d_tabulate, sum_ext}
use Rattle.masking.specs.Kept.{places}
use Rattle.table.specs.Rows.{Rows}
use Rattle.table.specs.Table.{count_rows, table_of}
use Rattle.image.specs.Image.{image}
use Rattle.image.specs.RowsPresent.{stands}
use Rattle.image.specs.AcceptedLaws.{standing_length}
use Rattle.counts.specs.Counts.{components_in}

rows_sum : (x : ℕ) → sum_to (λ i. one (stands x i)) places ≡ 26 + components_in x
unfolding sum_to components_in
rows_sum x = omega arith

-- a table whose rows are those that stand under x
module _ (m : Rows) (x : ℕ) (standing : (i : ℕ) → i < places → (m i).present ≡ stands x i) where
  pub rows_count : count_rows m ≡ 26 + components_in x
  unfolding count_rows
  rows_count = sum_ext _ _ places (λ i h. ap one (standing i h)) ∙ rows_sum x

  pub bytes_count : length (image (table_of m x)) ≡ 582 + 25 * components_in x
  unfolding components_in
  bytes_count = standing_length (table_of m x) x (λ i h. get_d_tabulate places (λ i. (m i).present) i false h ∙ standing i h)
