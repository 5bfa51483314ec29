-- `checks_from_invlpgb` meets its contract: refused without INVLPGB, or what the checks after it say.
use mathlib.Core.Path.{◌≡◌, ap, ◌∙◌}
use Rattle.table.specs.Rows.{Rows}
use Rattle.memory.specs.Memory.{rows_in}
use Rattle.checks.specs.Checks.{invlpgb_of, invlpgb_verdict}
use Rattle.finish.specs.Stages.{from_components}
use Rattle.rows.specs.CheckedLaws.{check_refuses, check_passes}
use Rattle.rows.proofs.checked.checks_from_invlpgb.Goals as goal
use Rattle.std.proofs.lemmas.Result.{err_from_is_err_and}
use Rattle.rows.proofs.checked.checks_from_invlpgb.Goals.{After-validate_invlpgb}

abbrev rowsBefore : After-validate_invlpgb → Rows
rowsBefore c = rows_in c.args.registers.now c.args.origins.now

found : (c : After-validate_invlpgb) → c.validate_invlpgb.result ≡ invlpgb_verdict (rowsBefore c)
unfolding invlpgb_verdict
found c = c.validate_invlpgb.ensures ∙ ap invlpgb_of c.row_at-sizes.ensures

pub returns-in_err-validate_invlpgb : goal.returns-in_err-validate_invlpgb
returns-in_err-validate_invlpgb c =
    let m = rowsBefore (goal.at.returns-in_err-validate_invlpgb c).After-validate_invlpgb in
    let p = err_from_is_err_and c.from_residual.result c.from_residual.ensures.1 in
    rw (p.1, p.2) (check_refuses m (invlpgb_verdict m) (from_components m) (found (goal.at.returns-in_err-validate_invlpgb c).After-validate_invlpgb) c.in_err-validate_invlpgb.was)

pub returns : goal.returns
returns c =
    let m = rowsBefore (goal.at.returns c).After-validate_invlpgb in
    check_passes m (invlpgb_verdict m) (from_components m) (found (goal.at.returns c).After-validate_invlpgb) c.in_ok-validate_invlpgb.was c.checks_from_components.ensures
