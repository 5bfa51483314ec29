-- `sha256::block::turn` meets its contract: the two temporary words, and the working variables moved on by one.
use Rattle.sha256.specs.Block.{turn}
use Rattle.sha256.proofs.block.turn.Goals as goal

pub returns : goal.returns
unfolding turn
returns c = cc
