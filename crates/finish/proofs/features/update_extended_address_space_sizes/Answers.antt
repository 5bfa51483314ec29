-- `finish::features::update_extended_address_space_sizes` meets its contract: the code's masks are the definition's figures.
use Rattle.bits.specs.Bits.{mask_of}
use Rattle.finish.specs.Finish.{address_sizes_ebx, ibrs_and_stibp, btc_no}
use Rattle.finish.proofs.features.update_extended_address_space_sizes.Goals as goal

pub returns : goal.returns
unfolding address_sizes_ebx ibrs_and_stibp btc_no mask_of
returns c = rw (c.clear_unless-ebx.ensures, c.ibpb.ensures)
