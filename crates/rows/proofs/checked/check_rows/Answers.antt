-- `check_rows` meets its contract: refused by the required leaves, or what the checks after them say.
use mathlib.Core.Path.{◌≡◌}
use Rattle.table.specs.Rows.{Rows}
use Rattle.memory.specs.Memory.{rows_in}
use Rattle.checks.specs.Checks.{required_verdict, rows_verdict}
use Rattle.finish.specs.Stages.{from_invlpgb}
use Rattle.rows.specs.Checked.{checked_rows}
use Rattle.rows.specs.CheckedLaws.{check_refuses, check_passes}
use Rattle.rows.proofs.checked.check_rows.Goals as goal
use Rattle.std.proofs.lemmas.Result.{err_from_is_err_and}
use Rattle.rows.proofs.checked.check_rows.Goals.{After-validate_required}

abbrev rowsBefore : After-validate_required → Rows
rowsBefore c = rows_in c.args.registers.now c.args.origins.now

found : (c : After-validate_required) → c.validate_required.result ≡ required_verdict (rowsBefore c)
unfolding required_verdict
found c = c.validate_required.ensures

pub returns-in_err-validate_required : goal.returns-in_err-validate_required
unfolding rows_verdict checked_rows
returns-in_err-validate_required c =
    let m = rowsBefore (goal.at.returns-in_err-validate_required c).After-validate_required in
    let p = err_from_is_err_and c.from_residual.result c.from_residual.ensures.1 in
    rw (p.1, p.2) (check_refuses m (required_verdict m) (from_invlpgb m) (found (goal.at.returns-in_err-validate_required c).After-validate_required) c.in_err-validate_required.was)

pub returns : goal.returns
unfolding rows_verdict checked_rows
returns c =
    let m = rowsBefore (goal.at.returns c).After-validate_required in
    check_passes m (required_verdict m) (from_invlpgb m) (found (goal.at.returns c).After-validate_required) c.in_ok-validate_required.was c.checks_from_invlpgb.ensures
