-- `finish::features::Enabled::has_cet` meets its contract: each bit is one of the definition's.
use Rattle.finish.proofs.features.Enabled.has_cet.Goals as goal

pub returns : goal.returns
returns c = cc
