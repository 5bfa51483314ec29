-- The stages of `finish_rows`: the answer from a check on.
use Rattle.std.specs.Prelude.{ℕ, Err}
use Rattle.table.specs.declared.Refusal.{Refusal}
use Rattle.table.specs.Refusal.{and_then}
use Rattle.table.specs.Rows.{Rows}
use Rattle.checks.specs.Checks.{invlpgb_verdict, components_verdict, area_verdict, topology_verdict}
use Rattle.table.specs.Table.{empty_table}
use Rattle.finish.specs.declared.RowsBuilt.{RowsBuilt}
use Rattle.finish.specs.RowsBuilt.{table_for}
use Rattle.table.specs.Verdict.{Verdict}

abbrev pub refused_built : Refusal → RowsBuilt
refused_built r = record { verdict = Err r; table = empty_table }

-- the answer that goes with a verdict on masked first entries, under edition n
abbrev pub built_by : ℕ → Verdict → Rows → RowsBuilt
built_by n v m = record { verdict = v; table = table_for n v m }

-- the checks from each on
abbrev pub from_area : Rows → Verdict
from_area m = and_then (area_verdict m) (topology_verdict m)

abbrev pub from_components : Rows → Verdict
from_components m = and_then (components_verdict m) (from_area m)

abbrev pub from_invlpgb : Rows → Verdict
from_invlpgb m = and_then (invlpgb_verdict m) (from_components m)
