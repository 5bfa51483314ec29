-- Row D.1: its ECX ends as XSS, and its EDX is masked to 0, so that the one exception of document 01, "should the mask leave D.1.EDX any
-- bit", never arises. It is the only row under its rule.
use Rattle.std.specs.Prelude.{◌≡◌, refl, Bool, true, ℕ, ◌<◌, eqb}
use Rattle.std.proofs.Common.{ap, eqb-true}
use Rattle.bits.specs.Choice.{pick}
use Rattle.bits.specs.ChoiceLaws.{if_holds}
use Rattle.bits.specs.Search.{every}
use Rattle.bits.specs.SearchLaws.{every_at}
use Rattle.x86defs.specs.declared.CpuidResult.{CpuidResult}
use Rattle.masking.specs.Kept.{places}
use Rattle.masking.specs.Place
use Rattle.table.specs.Rows.{Rows}
use Rattle.checks.specs.ExtendedStateLaws.{xsaves_ecx}
use Rattle.finish.specs.Finish.{Rule, Settings, rule_at, enabled_by, settings, unless_no_xss}
use Rattle.finish.specs.Finish.Needed.{extended_state1}
use Rattle.finish.specs.Finish.Rule.{needed}
use Rattle.finish.specs.PlaceLaws.{is_needed}

-- what is asked of the row
pub record XsavesRow (c : Settings) (r : CpuidResult) : Type 0 where
  pub ecx : unless_no_xss c.enabled r.ecx ≡ c.enabled.xss
  pub edx : r.edx ≡ 0

-- D.1.EDX is 0
abbrev pub XsavesEdx : Rows → Type 0
XsavesEdx m = (m (Place.extended_state 1)).result.edx ≡ 0

pub xsaves_row : (n : ℕ) (m : Rows) → XsavesEdx m → XsavesRow (settings n m) (m (Place.extended_state 1)).result
unfolding settings enabled_by unless_no_xss
xsaves_row n m z = record { ecx = xsaves_ecx m; edx = z }

-- ---- the only place under that rule

abbrev is_xsaves : Rule → Bool
is_xsaves = is_needed extended_state1

abbrev xsaves_test : ℕ → Bool
xsaves_test i = pick (is_xsaves (rule_at i)) (eqb i (Place.extended_state 1)) true

all_xsaves : every xsaves_test places ≡ true
all_xsaves = refl

pub only_xsaves : (i : ℕ) → i < places → rule_at i ≡ needed extended_state1 → i ≡ Place.extended_state 1
only_xsaves i l e =
    eqb-true i (Place.extended_state 1) (if_holds (is_xsaves (rule_at i)) _ (every_at xsaves_test places all_xsaves i l) (ap is_xsaves e))
