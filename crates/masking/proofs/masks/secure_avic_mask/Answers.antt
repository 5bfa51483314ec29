-- `masking::masks::secure_avic_mask` meets its contract: each branch is one case of `secure_avic_mask`, whose bit is computed from its name.
use Rattle.bits.specs.Bits.{mask_of}
use Rattle.masking.specs.Masks.{secure_avic_mask}
use Rattle.masking.proofs.masks.secure_avic_mask.Goals as goal

pub returns-then-secure_avic : goal.returns-then-secure_avic
unfolding secure_avic_mask mask_of
returns-then-secure_avic c = rw c.if-secure_avic.true

pub returns-else-secure_avic : goal.returns-else-secure_avic
unfolding secure_avic_mask mask_of
returns-else-secure_avic c = rw c.if-secure_avic.false
