-- `finish::features::extended_state_1` meets its contract: the test is the definition's.
use borrow.Author.Tests.{eq-eqb, ne_eqb}
use Rattle.finish.specs.Finish.{unless_no_xss}
use Rattle.finish.proofs.features.extended_state_1.Goals as goal

pub returns-then-e-eq0 : goal.returns-then-e-eq0
unfolding unless_no_xss
returns-then-e-eq0 c = rw (eq-eqb _ _ c.if-e-eq0.true)

pub returns : goal.returns
unfolding unless_no_xss
returns c = rw (ne_eqb _ _ c.if-e-eq0.false)
