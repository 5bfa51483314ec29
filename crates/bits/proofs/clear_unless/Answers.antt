-- `bits::clear_unless` meets its contract: each branch is one case of `clear_unless`.
use Rattle.bits.specs.Bits.{clear, clear_unless}
use Rattle.bits.proofs.clear_unless.Goals as goal

pub returns-then-keep : goal.returns-then-keep
unfolding clear_unless
returns-then-keep c = rw c.if-keep.true

pub returns-else-keep : goal.returns-else-keep
unfolding clear_unless clear
returns-else-keep c = rw c.if-keep.false
