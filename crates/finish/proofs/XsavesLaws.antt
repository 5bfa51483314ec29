-- Row D.1: its ECX ends as XSS, and its EDX is masked to 0, so that the one exception of document 01, "should the mask leave D.1.EDX any
-- bit", never arises. It is the only row under its rule.
use Rattle.std.specs.Prelude.{◌≡◌, ℕ, ◌<◌}
use Rattle.std.proofs.Common.{sym, subst}
use Rattle.masking.specs.Kept.{places}
use Rattle.table.specs.Rows.{Rows}
use Rattle.finish.specs.Finish.{rule_at, settings}
use Rattle.finish.specs.Finish.Needed.{extended_state1}
use Rattle.finish.specs.Finish.Rule.{needed}
use Rattle.finish.specs.XsavesLaws.{XsavesEdx, XsavesRow, only_xsaves, xsaves_row}

pub xsaves_at : (n : ℕ) (m : Rows) → XsavesEdx m → (i : ℕ) → i < places → rule_at i ≡ needed extended_state1 → XsavesRow (settings n m) (m i).result
xsaves_at n m z i l e = subst (λ (j : ℕ). XsavesRow (settings n m) (m j).result) (sym (only_xsaves i l e)) (xsaves_row n m z)
