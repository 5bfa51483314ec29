-- The masks as numbers, each computed from its named bits and fields. Document 01 gives five of them as a check.
use Rattle.std.specs.Prelude.{◌≡◌, refl, true, false, [], ◌∷◌}
use Rattle.bits.specs.Bits.{mask_of, field_mask}
use Rattle.x86defs.specs.Fields.{fields_mask}
use Rattle.x86defs.specs.Functions.{cpuid_result}
use Rattle.masking.specs.Masks.{version_and_features, extended_features, extended_state0, extended_state1, extended_version_and_features, extended_address_space_sizes, extended_svm, extended_optimization, extended_sev, secure_avic_mask}

-- "Check: 1.ECX 7EDA3203h, 1.EDX 178BFBFFh, D.0.EAX E7h, D.1.EAX Bh, D.1.ECX 1800h"
pub check_figures :
    version_and_features.ecx ∷ version_and_features.edx ∷ extended_state0.eax ∷ extended_state1.eax ∷ extended_state1.ecx ∷ []
    ≡ 0x7EDA3203 ∷ 0x178BFBFF ∷ 0xE7 ∷ 0xB ∷ 0x1800 ∷ []
unfolding version_and_features extended_state0 extended_state1 mask_of fields_mask field_mask
check_figures = refl

-- 1, 7.0, D.0, D.1, 80000001h, 80000008h, 8000000Ah, 8000001Ah; 8000001Fh without and with secure AVIC
pub mask_figures :
    version_and_features
    ∷ extended_features
    ∷ extended_state0
    ∷ extended_state1
    ∷ extended_version_and_features
    ∷ extended_address_space_sizes
    ∷ extended_svm
    ∷ extended_optimization
    ∷ extended_sev false
    ∷ extended_sev true
    ∷ []
    ≡ cpuid_result 0x0FFF3FFF 0xFFFFFFFF 0x7EDA3203 0x178BFBFF
    ∷ cpuid_result 0xFFFFFFFF 0xF1BF27A9 0x1A405FE6 0x00804110
    ∷ cpuid_result 0x000000E7 0xFFFFFFFF 0xFFFFFFFF 0x00000000
    ∷ cpuid_result 0x0000000B 0xFFFFFFFF 0x00001800 0x00000000
    ∷ cpuid_result 0x0FFF3FFF 0xF000FFFF 0x00410DF3 0xEFD3FBFF
    ∷ cpuid_result 0x0000FFFF 0x3112D21F 0x0000F0FF 0xFFFFFFFF
    ∷ cpuid_result 0x000000FF 0x00000000 0x00000000 0x00000000
    ∷ cpuid_result 0x00000007 0x00000000 0x00000000 0x00000000
    ∷ cpuid_result 0x0000027F 0x0000FFFF 0xFFFFFFFF 0xFFFFFFFF
    ∷ cpuid_result 0x0400027F 0x0000FFFF 0xFFFFFFFF 0xFFFFFFFF
    ∷ []
unfolding version_and_features extended_features extended_state0 extended_state1 extended_version_and_features extended_address_space_sizes extended_svm extended_optimization extended_sev secure_avic_mask mask_of fields_mask field_mask
mask_figures = refl
