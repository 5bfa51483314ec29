-- One row of a list as it is written, and the row that a run gives a place.
use Rattle.std.specs.Prelude.{◌≡◌, ℕ, ◌+◌, ◌-◌, ◌≤◌, ◌<◌}
use Rattle.std.proofs.Math.Bool.{true}
use Rattle.masking.specs.declared.run.Run.{Run}
use Rattle.masking.specs.Runs.{lawful_run}
use Rattle.masking.specs.RunLaws.{indexed_in_run, leaf_in_run, subleaf_in_run}
use Rattle.table.specs.declared.CpuidResults.{CpuidResults}
use Rattle.table.specs.Table.{row_in}
use Rattle.kvm_export.specs.ExportPieces.{run_row}
use Rattle.kvm_export.specs.RunRowLaws.{place_bytes, stands_row}

pub run_row_lem : (t : CpuidResults) (g : Run) → lawful_run g ≡ true → (i : ℕ) → g.first ≤ i → i < g.first + g.count
    → place_bytes t i ≡ run_row g (i - g.first) (row_in t i).present (row_in t i).result
unfolding run_row
run_row_lem t g l i low high =
    stands_row g.indexed g.leaf (i - g.first) i (row_in t i).present (row_in t i).result
    (indexed_in_run g l low high) (leaf_in_run g l low high) (subleaf_in_run g l low high)
