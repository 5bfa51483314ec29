-- `checks_from_components` meets its contract: refused at a missing subleaf, or what the checks after it say.
use mathlib.Core.Path.{◌≡◌, ap, ◌∙◌}
use Rattle.table.specs.Rows.{Rows}
use Rattle.memory.specs.Memory.{rows_in}
use Rattle.checks.specs.ExtendedState.{xfem, xss, combined_mask}
use Rattle.checks.specs.Checks.{components_of, components_verdict}
use Rattle.finish.specs.Stages.{from_area}
use Rattle.rows.specs.CheckedLaws.{check_refuses, check_passes}
use Rattle.rows.proofs.checked.checks_from_components.Goals as goal
use Rattle.std.proofs.lemmas.Result.{err_from_is_err_and}
use Rattle.rows.proofs.checked.checks_from_components.Goals.{After-process_extended_state_subleaves}

-- the rows, and the verdict on them that the code found, which is the definition's
abbrev rowsBefore : After-process_extended_state_subleaves → Rows
rowsBefore c = rows_in c.args.registers.now c.args.origins.now

found : (c : After-process_extended_state_subleaves) → c.process_extended_state_subleaves.result ≡ components_verdict (rowsBefore c)
unfolding xfem xss combined_mask components_of components_verdict
found c =
    c.process_extended_state_subleaves.ensures ∙ ap (components_of (rowsBefore c)) c.combined_mask-mask.ensures

pub returns-in_err-process_extended_state_subleaves : goal.returns-in_err-process_extended_state_subleaves
returns-in_err-process_extended_state_subleaves c =
    let m = rowsBefore (goal.at.returns-in_err-process_extended_state_subleaves c).After-process_extended_state_subleaves in
    let p = err_from_is_err_and c.from_residual.result c.from_residual.ensures.1 in
    rw (p.1, p.2) (check_refuses m (components_verdict m) (from_area m) (found (goal.at.returns-in_err-process_extended_state_subleaves c).After-process_extended_state_subleaves) c.in_err-process_extended_state_subleaves.was)

pub checks_from_area-requires : goal.checks_from_area-requires
unfolding xfem xss combined_mask
checks_from_area-requires c = c.combined_mask-mask.ensures

pub returns : goal.returns
returns c =
    let m = rowsBefore (goal.at.returns c).After-process_extended_state_subleaves in
    check_passes m (components_verdict m) (from_area m) (found (goal.at.returns c).After-process_extended_state_subleaves) c.in_ok-process_extended_state_subleaves.was c.checks_from_area.ensures
