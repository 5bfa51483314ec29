-- `finish::features::YmmClears::of` meets its contract: the code's masks are the definition's figures.
use Rattle.bits.specs.Bits.{mask_of}
use Rattle.finish.specs.Finish.{ymm_clears, edition1}
use Rattle.finish.proofs.features.YmmClears.of.Goals as goal

pub returns : goal.returns
unfolding ymm_clears edition1 mask_of
returns c = rw c.between-further.ensures
