-- `sha256::block::sum_of` meets its contract: word by word.
use Rattle.sha256.specs.Block.{added}
use Rattle.sha256.proofs.block.sum_of.Goals as goal

pub returns : goal.returns
unfolding added
returns c = cc
