-- `sha256::block::small_1` meets its contract: `σ₁` of two rotations and a shift.
use Rattle.sha256.specs.Block.{σ₁}
use Rattle.sha256.proofs.block.small_1.Goals as goal

pub returns : goal.returns
unfolding σ₁
returns c = cc
