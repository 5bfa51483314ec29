-- `compare::search::compare_rows` meets its contract: before each turn the places that are left give what all give.
use mathlib.Core.Path.{◌≡◌}
use Rattle.memory.specs.Memory.{rows_in}
use Rattle.compare.specs.RowsCompared.{wanted_by, rows_compared}
use Rattle.compare.specs.RowsComparedLaws.{compared_from}
use Rattle.compare.proofs.search.compare_rows.Given as goal

abbrev pub invariant-loop-place : goal.invariant-loop-place
invariant-loop-place l =
    rows_compared (wanted_by l.asked) (rows_in l.a_registers l.a_origins) (rows_in l.b_registers l.b_origins)
    ≡ compared_from (wanted_by l.asked) (rows_in l.a_registers l.a_origins) (rows_in l.b_registers l.b_origins) l.place
