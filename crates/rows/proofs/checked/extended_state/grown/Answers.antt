-- `extended_state::grown` meets its contract: the sum is too large, grows the area, lies within it, or is not used.
use native.Mathlib.Omega.{arith}
use Rattle.checks.specs.SaveAreaLaws.{grown_over, grown_to, grown_within, grown_unused}
use Rattle.rows.proofs.checked.extended_state.grown.Goals as goal

pub returns-then-subleaf-left : goal.returns-then-subleaf-left
returns-then-subleaf-left c = grown_over _ _ c.if-used.true (omega arith)

pub returns-then-end-area : goal.returns-then-end-area
returns-then-end-area c = grown_to _ _ c.if-used.true (omega arith) (omega arith)

pub returns-then-used : goal.returns-then-used
returns-then-used c = grown_within _ _ c.if-used.true (omega arith) (omega arith)

pub returns : goal.returns
returns c = grown_unused _ _ c.if-used.false (omega arith)
