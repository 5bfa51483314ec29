-- `finish::features::Enabled::new` meets its contract.
use Rattle.finish.proofs.features.Enabled.new.Goals as goal

pub returns : goal.returns
returns c = cc
