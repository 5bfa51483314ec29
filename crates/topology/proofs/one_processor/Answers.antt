-- `topology::one_processor` meets its contract: each branch is one case of the and.
use borrow.Author.Tests.{eq-eqb, ne_eqb}
use Rattle.topology.proofs.one_processor.Goals as goal

pub returns-then-nc-eq0 : goal.returns-then-nc-eq0
returns-then-nc-eq0 c = rw (eq-eqb _ _ c.if-nc-eq0.true)

pub returns-else-nc-eq0 : goal.returns-else-nc-eq0
returns-else-nc-eq0 c = rw (ne_eqb _ _ c.if-nc-eq0.false)
