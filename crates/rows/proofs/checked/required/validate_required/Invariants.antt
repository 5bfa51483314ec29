-- `required::validate_required` meets its contract: the code's places are those of the definition's list, and each turn passes one of them
-- or stops there.
use Rattle.std.proofs.Common.{◌≡◌}
use Rattle.checks.specs.Checks.{required_verdict}
use Rattle.checks.specs.ScanLaws.{required_places}
use Rattle.rows.specs.Checked.{present_in}
use Rattle.rows.specs.CheckedLaws.{required_from}
use Rattle.rows.proofs.checked.required.validate_required.Given as goal

abbrev pub invariant-loop-required : goal.invariant-loop-required
invariant-loop-required l = (l.required-items ≡ required_places) × (required_verdict (present_in l.origins) ≡ required_from (present_in l.origins) l.required-index)
