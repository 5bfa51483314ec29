-- `bits::has_bit` meets its contract, by the law of a bit by shift and mask.
use Rattle.bits.specs.BitsLaws.{has_shift_mask}
use Rattle.bits.proofs.has_bit.Goals as goal

pub returns : goal.returns
returns c = has_shift_mask _ _
