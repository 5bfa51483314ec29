-- `finish::features::Enabled::has_avx512` meets its contract: each bit is one of the definition's.
use Rattle.finish.proofs.features.Enabled.has_avx512.Goals as goal

pub returns : goal.returns
returns c = cc
