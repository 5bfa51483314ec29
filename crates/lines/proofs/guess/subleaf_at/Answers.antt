-- `guess::subleaf_at` meets its contract: something is left.
use mathlib.Core.Path.{ap, ◌∙◌}
use Rattle.lines.specs.ReadLineLaws.{subleaf_some}
use Rattle.lines.proofs.guess.subleaf_at.Goals as goal
use Rattle.std.specs.Prelude.{Some}

pub returns-then-at-line : goal.returns-then-at-line
returns-then-at-line c = ap Some c.field_at-subleaf.ensures.value_value ∙ subleaf_some _ _ c.if-at-line.true
