-- `required::validate_required` meets its contract: the code's places are those of the definition's list, and each turn passes one of them
-- or stops there.
use Rattle.std.proofs.Common.{◌∙◌, refl, sym}
use Rattle.bits.specs.Lists.{tabulate}
use Rattle.masking.specs.Kept.{kept_leaves, place_of}
use Rattle.checks.specs.Required.{common_required_leaves, snp_required_leaves, required_at, place_required}
use Rattle.checks.specs.Checks.{required_verdict}
use Rattle.checks.specs.ScanLaws.{refuse_from, required_places}
use Rattle.rows.specs.Checked.{present_in}
use Rattle.rows.specs.CheckedLaws.{required_passes, required_stops, required_ends}
use Rattle.rows.proofs.checked.required.validate_required.Goals as goal

pub loop-required-init : goal.loop-required-init
unfolding required_places tabulate required_at place_required common_required_leaves snp_required_leaves place_of kept_leaves required_verdict refuse_from
loop-required-init c = (refl, refl)

pub loop-required-preserved : goal.loop-required-preserved
loop-required-preserved c = (
  c.loop-required.invariant.0,
  c.loop-required.invariant.1
      ∙ required_passes (present_in c.args.origins.now) c.loop-required.required-index c.loop-required.invariant.0 c.loop-required-test.true
      (sym c.is_there.ensures ∙ c.if-not-is_there.false),
)

pub returns-then-not-is_there : goal.returns-then-not-is_there
returns-then-not-is_there c =
    c.missing_at.ensures
    ∙ required_stops (present_in c.args.origins.now) c.loop-required.required-index c.loop-required.invariant.0 c.loop-required-test.true
    (sym c.is_there.ensures ∙ c.if-not-is_there.true)
    ∙ sym c.loop-required.invariant.1

pub returns : goal.returns
returns c =
    required_ends (present_in c.args.origins.now) c.loop-required.required-index c.loop-required-test.false ∙ sym c.loop-required.invariant.1
