-- `topology::thread_level` meets its contract: each branch is one case of `thread_level`.
use borrow.Author.Tests.{eq-eqb, ne_eqb}
use Rattle.topology.proofs.thread_level.Goals as goal

pub returns-then-t-eq1 : goal.returns-then-t-eq1
returns-then-t-eq1 c = rw (eq-eqb _ _ c.if-t-eq1.true)

pub returns-else-t-eq1 : goal.returns-else-t-eq1
returns-else-t-eq1 c = rw (ne_eqb _ _ c.if-t-eq1.false)
