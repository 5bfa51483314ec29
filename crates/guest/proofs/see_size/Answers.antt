-- `guest::see_size` meets its contract: the register of a row that is there.
use Rattle.guest.proofs.see_size.Goals as goal

pub returns-then-present : goal.returns-then-present
returns-then-present c = rw c.if-present.true
