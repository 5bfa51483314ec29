-- `sha256::start` meets its contract: the eight words are the standard's.
use Rattle.std.proofs.Common.{refl}
use Rattle.sha256.specs.Sha256.{initial}
use Rattle.sha256.proofs.start.Goals as goal

pub returns : goal.returns
unfolding initial
returns c = refl
