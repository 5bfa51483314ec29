-- `sha256::block::big_0` meets its contract: `Σ₀` of three rotations.
use Rattle.sha256.specs.Block.{Σ₀}
use Rattle.sha256.proofs.block.big_0.Goals as goal

pub returns : goal.returns
unfolding Σ₀
returns c = cc
