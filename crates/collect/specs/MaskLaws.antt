-- First entries masked in place, one place after the other, are the masked first entries.
use Rattle.std.specs.Prelude.{◌≡◌, Bool, ℕ, ◌^◌, ◌<◌}
use Rattle.std.proofs.Common.{ap, ◌∙◌, mod-eq_of_lt}
use Rattle.std.specs.Int.Bits.{bit_and, and_self, and_zero_l}
use Rattle.std.proofs.lemmas.Nat.{and_mask, and_comm}
use Rattle.bits.specs.BitsLaws.{and_assoc}
use Rattle.x86defs.specs.declared.CpuidResult.{CpuidResult}
use Rattle.x86defs.specs.Functions.{cpuid_result}
use Rattle.masking.specs.Masks.{Masks, ones, apply_mask}
use Rattle.masking.specs.Kept.{places, masks_at}
use Rattle.masking.specs.MasksFit.{MasksFit, masks_fit}
use Rattle.collect.specs.FirstEntries.{words, masked_at}

-- ---- a row

ones_and : (m : ℕ) → m < 2 ^ 32 → bit_and ones m ≡ m
ones_and m h = and_comm ones m ∙ and_mask m 32 ∙ mod-eq_of_lt h

word_masked : (x m : ℕ) → m < 2 ^ 32 → bit_and (bit_and x ones) m ≡ bit_and x m
word_masked x m h = and_assoc x ones m ∙ ap (bit_and x) (ones_and m h)

-- masks do not tell a register from its 32 bits
pub mask_words : (avic : Bool) (i : ℕ) → i < places → (r : CpuidResult) → masked_at avic i (words r) ≡ masked_at avic i r
mask_words avic i h r =
    let f : MasksFit (masks_at avic i) = masks_fit avic i h in
    rw (
      word_masked r.eax (masks_at avic i).eax f.eax,
      word_masked r.ebx (masks_at avic i).ebx f.ebx,
      word_masked r.ecx (masks_at avic i).ecx f.ecx,
      word_masked r.edx (masks_at avic i).edx f.edx,
    )

pub words_words : (r : CpuidResult) → words (words r) ≡ words r
words_words r = rw (and_assoc r.eax ones ones, and_assoc r.ebx ones ones, and_assoc r.ecx ones ones, and_assoc r.edx ones ones)

pub mask_zero : (m : Masks) → apply_mask m (cpuid_result 0 0 0 0) ≡ cpuid_result 0 0 0 0
mask_zero m = rw (and_zero_l m.eax, and_zero_l m.ebx, and_zero_l m.ecx, and_zero_l m.edx)

pub mask_twice : (m : Masks) (r : CpuidResult) → apply_mask m (apply_mask m r) ≡ apply_mask m r
mask_twice m r =
    rw (
      and_assoc r.eax m.eax m.eax,
      and_assoc r.ebx m.ebx m.ebx,
      and_assoc r.ecx m.ecx m.ecx,
      and_assoc r.edx m.edx m.edx,
      and_self m.eax,
      and_self m.ebx,
      and_self m.ecx,
      and_self m.edx,
    )
