-- `nearest::search::decisive::finished_row` meets its contract: the memory that is finished holds the table's rows.
use mathlib.Core.Path.{ap, ◌∙◌}
use Rattle.table.specs.Rows.{Row}
use Rattle.rows.specs.HeldLaws.{held_row}
use Rattle.nearest.proofs.search.decisive.finished_row.Goals as goal

pub returns : goal.returns
returns c =
    c.row_at.ensures
    ∙ ap (λ (r : Row). r.result)
    (held_row c.args.edition c.args.registers.now c.args.origins.now c.finish.ensures c.args.place c.requires.0)
