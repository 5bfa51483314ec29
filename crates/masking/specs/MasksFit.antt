-- Every mask fits in 32 bits, by one computed test over the 88 places.
use Rattle.std.specs.Prelude.{◌≡◌, refl, Bool, true, false, ◌&&◌, ℕ, ◌^◌, ◌<◌, ltb}
use Rattle.std.proofs.Common.{ltb-true}
use Rattle.bits.specs.ChoiceLaws.{and_left, and_right}
use Rattle.bits.specs.Search.{every}
use Rattle.bits.specs.SearchLaws.{every_at}
use Rattle.bits.specs.Bits.{mask_of, field_mask}
use Rattle.x86defs.specs.Fields.{fields_mask}
use Rattle.masking.specs.Masks.{Masks, version_and_features, extended_features, extended_state0, extended_state1, extended_version_and_features, extended_address_space_sizes, extended_svm, extended_optimization, extended_sev, secure_avic_mask}
use Rattle.masking.specs.Kept.{kept_leaves, places, slot, masks_at}

abbrev fit : Masks → Bool
fit m = ltb m.eax (2 ^ 32) && (ltb m.ebx (2 ^ 32) && (ltb m.ecx (2 ^ 32) && ltb m.edx (2 ^ 32)))

all_fit : (avic : Bool) → every (λ i. fit (masks_at avic i)) places ≡ true
unfolding slot kept_leaves version_and_features extended_features extended_state0 extended_state1 extended_version_and_features extended_address_space_sizes extended_svm extended_optimization extended_sev secure_avic_mask mask_of fields_mask field_mask
all_fit true = refl
all_fit false = refl

pub record MasksFit (m : Masks) : Type 0 where
  pub eax : m.eax < 2 ^ 32
  pub ebx : m.ebx < 2 ^ 32
  pub ecx : m.ecx < 2 ^ 32
  pub edx : m.edx < 2 ^ 32

pub masks_fit : (avic : Bool) (i : ℕ) → i < places → MasksFit (masks_at avic i)
masks_fit avic i h =
    let m : Masks = masks_at avic i in
    let e : fit m ≡ true = every_at (λ i. fit (masks_at avic i)) places (all_fit avic) i h in
    let e₁ = and_right (ltb m.eax (2 ^ 32)) _ e in
    let e₂ = and_right (ltb m.ebx (2 ^ 32)) _ e₁ in
    record {
      eax = ltb-true _ _ (and_left _ _ e);
      ebx = ltb-true _ _ (and_left _ _ e₁);
      ecx = ltb-true _ _ (and_left _ _ e₂);
      edx = ltb-true _ _ (and_right (ltb m.ecx (2 ^ 32)) _ e₂);
    }
