-- `carry::clear_ecx` meets its contract.
use Rattle.carry.proofs.clear_ecx.Goals as goal

pub returns-then-present : goal.returns-then-present
returns-then-present c = rw (c.clear_unless-ecx.ensures, c.if-present.true)
