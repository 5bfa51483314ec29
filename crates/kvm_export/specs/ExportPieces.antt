-- A table's list piece by piece, as it is written. Each piece is kept opaque, so that a contract shows one list and not its bytes.
use Rattle.std.specs.Prelude.{Bool, List, [], ℕ, ◌+◌, ◌-◌}
use Rattle.bits.specs.Choice.{pick}
use Rattle.x86defs.specs.declared.CpuidResult.{CpuidResult}
use Rattle.masking.specs.Kept.{places}
use Rattle.table.specs.declared.CpuidResults.{CpuidResults}
use Rattle.masking.specs.declared.run.Run.{Run}
use Rattle.kvm_list.specs.Words.{bytes_of_words}
use Rattle.kvm_list.specs.Format.{row_words, all_words}
use Rattle.kvm_export.specs.Export.{plain_row, rows_from}

unfoldable pub row_bytes : ℕ → ℕ → ℕ → CpuidResult → List ℕ
row_bytes leaf index flags r = bytes_of_words (row_words (plain_row leaf index flags r))

-- the row of the k-th place of a run
unfoldable pub run_row : Run → ℕ → Bool → CpuidResult → List ℕ
run_row g k present r = pick present (pick g.indexed (row_bytes g.leaf.0 k 1 r) (row_bytes (g.leaf.0 + k) 0 0 r)) []

-- the rows from place i on: what is left to write
unfoldable pub rows_left : CpuidResults → ℕ → List ℕ
rows_left t i = bytes_of_words (all_words (rows_from t i (places - i)))
