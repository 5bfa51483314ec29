-- `sha256::block::big_1` meets its contract: `Σ₁` of three rotations.
use Rattle.sha256.specs.Block.{Σ₁}
use Rattle.sha256.proofs.block.big_1.Goals as goal

pub returns : goal.returns
unfolding Σ₁
returns c = cc
