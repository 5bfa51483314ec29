-- `topology::counts_agree` meets its contract: each branch is one case of the and.
use borrow.Author.Tests.{le-leb, lt-leb}
use Rattle.topology.proofs.counts_agree.Goals as goal

pub returns-then-nc-v : goal.returns-then-nc-v
returns-then-nc-v c = rw (le-leb _ _ c.if-nc-v.true)

pub returns-else-nc-v : goal.returns-else-nc-v
returns-else-nc-v c = rw (lt-leb _ _ c.if-nc-v.false)
