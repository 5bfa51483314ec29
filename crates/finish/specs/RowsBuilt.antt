-- The answer to masked first entries: document 01's checks in order, then the table.
use Rattle.std.specs.Prelude.{ℕ, Err, Ok}
use Rattle.table.specs.Rows.{Rows}
use Rattle.table.specs.declared.CpuidResults.{CpuidResults}
use Rattle.table.specs.Table.{table_of, empty_table}
use Rattle.checks.specs.ExtendedState.{combined_mask}
use Rattle.checks.specs.Checks.{rows_verdict}
use Rattle.finish.specs.Finish.{finished}
use Rattle.finish.specs.declared.RowsBuilt.{RowsBuilt}
use Rattle.table.specs.Verdict.{Verdict}

-- the table that goes with a verdict on masked first entries, under edition n
abbrev pub table_for : ℕ → Verdict → Rows → CpuidResults
table_for n (Ok _) m = table_of (finished n m) (combined_mask m)
table_for n (Err r) m = empty_table

-- the answer to masked first entries, once edition and pages are lawful
unfoldable pub built_from : ℕ → Rows → RowsBuilt
built_from n m = record { verdict = rows_verdict m; table = table_for n (rows_verdict m) m }
