-- `finish::features::extended_version_and_features` meets its contract: the code's masks are the definition's figures.
use Rattle.bits.specs.Bits.{mask_of}
use Rattle.finish.specs.Finish.{extended_version_ecx, extended_version_edx, rdtscp}
use Rattle.finish.proofs.features.extended_version_and_features.Goals as goal

pub returns : goal.returns
unfolding extended_version_ecx extended_version_edx rdtscp mask_of
returns c = rw (c.clear_unless-edx.ensures, c.clear_unless-ecx.ensures, c.has_ymm.ensures)
