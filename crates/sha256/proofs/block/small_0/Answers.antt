-- `sha256::block::small_0` meets its contract: `σ₀` of two rotations and a shift.
use Rattle.sha256.specs.Block.{σ₀}
use Rattle.sha256.proofs.block.small_0.Goals as goal

pub returns : goal.returns
unfolding σ₀
returns c = cc
