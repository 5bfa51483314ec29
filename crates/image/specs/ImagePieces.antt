-- The image piece by piece, as it is written. Each piece is kept opaque, so that a contract shows one list and not its bytes.
use Rattle.std.specs.Prelude.{Bool, false, List, [], ◌∷◌, ◌++◌, ℕ, ◌+◌, ◌-◌, drop, get_or}
use Rattle.bits.specs.Choice.{pick}
use Rattle.bits.specs.Lists.{sum_to, one}
use Rattle.x86defs.specs.declared.CpuidFunction.{CpuidFunction}
use Rattle.x86defs.specs.declared.CpuidResult.{CpuidResult}
use Rattle.x86defs.specs.Functions.{function}
use Rattle.masking.specs.declared.run.Run.{Run}
use Rattle.table.specs.declared.CpuidResults.{CpuidResults}
use Rattle.buffer.specs.Front.{bytes_of, result_bytes}
use Rattle.table.specs.Order.{row_order}
use Rattle.image.specs.Image.{image_in}

-- ---- rows

unfoldable pub indexed_row : CpuidFunction → ℕ → CpuidResult → List ℕ
indexed_row leaf subleaf r = 2 ∷ bytes_of leaf.0 ++ bytes_of subleaf ++ result_bytes r

unfoldable pub whole_row : CpuidFunction → CpuidResult → List ℕ
whole_row leaf r = 1 ∷ bytes_of leaf.0 ++ result_bytes r

-- the rows from place i on: what is left to write
unfoldable pub rows_from : CpuidResults → ℕ → List ℕ
rows_from t i = image_in (drop i row_order) t

-- how many rows there are among the places from first up to end
unfoldable pub rows_among : List Bool → ℕ → ℕ → ℕ
rows_among present first end = sum_to (λ k. one (get_or present (first + k) false)) (end - first)

-- ---- runs of places

-- the row of the k-th place of a run
unfoldable pub run_row : Run → ℕ → Bool → CpuidResult → List ℕ
run_row g k present r = pick present (pick g.indexed (indexed_row g.leaf k r) (whole_row (function (g.leaf.0 + k)) r)) []
