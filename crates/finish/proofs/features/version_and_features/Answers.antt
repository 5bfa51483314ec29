-- `finish::features::version_and_features` meets its contract: the code's masks are the definition's figures.
use Rattle.bits.specs.Bits.{mask_of}
use Rattle.finish.specs.Finish.{version_ecx, hypervisor_present}
use Rattle.finish.proofs.features.version_and_features.Goals as goal

pub returns : goal.returns
unfolding version_ecx hypervisor_present mask_of
returns c = rw (c.clear_unless-ecx.ensures, c.has_ymm.ensures)
