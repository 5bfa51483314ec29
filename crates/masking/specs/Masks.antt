-- Document 01, "Corners of masking.rs": the four masks of each kept leaf. A mask has the named bits or the named fields of its register.
-- 80000001h and 80000008h have masks in masking.rs and in snp.rs, which are joined by or.
use Rattle.std.specs.Prelude.{Bool, [], ◌∷◌, ℕ, ◌-◌, ◌^◌}
use Rattle.std.specs.Int.Bits.{bit_and, bit_or}
use Rattle.bits.specs.Choice.{pick}
use Rattle.bits.specs.Bits.{mask_of}
use Rattle.x86defs.specs.declared.CpuidResult.{CpuidResult}
use Rattle.x86defs.specs.Functions.{cpuid_result}
use Rattle.x86defs.specs.Fields.{fields_mask}
use Rattle.x86defs.specs.Fields.Field.{processor_stepping, processor_model, processor_family, processor_type, extended_model, extended_family}
use Rattle.x86defs.specs.Fields.Field.{brand_index, clflush_line_size, lps_per_package, initial_apic_id, brand_id, pkg_type}
use Rattle.x86defs.specs.Fields.Field.{physical_address_size, virtual_address_size, nc, apic_core_id_size, invlpgb_count_max, rdpru_max_ecx}
use Rattle.x86defs.specs.Fields.Field.{svm_rev, cbit_position, encryption_physical_bits_used, number_of_vmpls}
use Rattle.x86defs.specs.VersionAndFeaturesEcx
use Rattle.x86defs.specs.VersionAndFeaturesEdx
use Rattle.x86defs.specs.ExtendedFeatureSubleaf0Ebx
use Rattle.x86defs.specs.ExtendedFeatureSubleaf0Ecx
use Rattle.x86defs.specs.ExtendedFeatureSubleaf0Edx
use Rattle.x86defs.specs.ExtendedStateEnumerationSubleaf0Eax
use Rattle.x86defs.specs.ExtendedStateEnumerationSubleaf1Eax
use Rattle.x86defs.specs.ExtendedStateEnumerationSubleaf1Ecx
use Rattle.x86defs.specs.ExtendedVersionAndFeaturesEcx
use Rattle.x86defs.specs.ExtendedVersionAndFeaturesEdx
use Rattle.x86defs.specs.ExtendedAddressSpaceSizesEbx
use Rattle.x86defs.specs.ExtendedOptimizationIdentifiersEax
use Rattle.x86defs.specs.ExtendedSevFeaturesEax

-- all 32 bits
abbrev pub ones : ℕ
ones = 2 ^ 32 - 1

-- four masks, one for each register
abbrev pub Masks : Type 0
Masks = CpuidResult

abbrev pub all_ones : Masks
all_ones = cpuid_result ones ones ones ones

-- the bitwise and of each register with its mask
abbrev pub apply_mask : Masks → CpuidResult → CpuidResult
apply_mask m r = cpuid_result (bit_and r.eax m.eax) (bit_and r.ebx m.ebx) (bit_and r.ecx m.ecx) (bit_and r.edx m.edx)

-- the bitwise or of two masks, register by register
abbrev pub combine : Masks → Masks → Masks
combine m n = cpuid_result (bit_or m.eax n.eax) (bit_or m.ebx n.ebx) (bit_or m.ecx n.ecx) (bit_or m.edx n.edx)

signature : ℕ
signature = fields_mask (processor_stepping ∷ processor_model ∷ processor_family ∷ processor_type ∷ extended_model ∷ extended_family ∷ [])

-- 1
unfoldable pub version_and_features : Masks
unfolding signature
version_and_features =
    cpuid_result
    signature
    (fields_mask (brand_index ∷ clflush_line_size ∷ lps_per_package ∷ initial_apic_id ∷ []))
    (mask_of VersionAndFeaturesEcx.position VersionAndFeaturesEcx.kept)
    (mask_of VersionAndFeaturesEdx.position VersionAndFeaturesEdx.kept)

-- 7.0
unfoldable pub extended_features : Masks
extended_features =
    cpuid_result
    ones
    (mask_of ExtendedFeatureSubleaf0Ebx.position ExtendedFeatureSubleaf0Ebx.kept)
    (mask_of ExtendedFeatureSubleaf0Ecx.position ExtendedFeatureSubleaf0Ecx.kept)
    (mask_of ExtendedFeatureSubleaf0Edx.position ExtendedFeatureSubleaf0Edx.kept)

-- D.0
unfoldable pub extended_state0 : Masks
extended_state0 = cpuid_result (mask_of ExtendedStateEnumerationSubleaf0Eax.position ExtendedStateEnumerationSubleaf0Eax.kept) ones ones 0

-- D.1
unfoldable pub extended_state1 : Masks
extended_state1 =
    cpuid_result
    (mask_of ExtendedStateEnumerationSubleaf1Eax.position ExtendedStateEnumerationSubleaf1Eax.kept)
    ones
    (mask_of ExtendedStateEnumerationSubleaf1Ecx.position ExtendedStateEnumerationSubleaf1Ecx.kept)
    0

-- 80000001h: the masks of masking.rs, then those of snp.rs
unfoldable pub extended_version_and_features : Masks
unfolding signature
extended_version_and_features =
    combine
    (cpuid_result
    signature
    (fields_mask (brand_id ∷ pkg_type ∷ []))
    (mask_of ExtendedVersionAndFeaturesEcx.position ExtendedVersionAndFeaturesEcx.kept)
    (mask_of ExtendedVersionAndFeaturesEdx.position ExtendedVersionAndFeaturesEdx.kept))
    (cpuid_result 0 0 0 (mask_of ExtendedVersionAndFeaturesEdx.position ExtendedVersionAndFeaturesEdx.kept_by_snp))

-- 80000008h: the masks of masking.rs, then those of snp.rs
unfoldable pub extended_address_space_sizes : Masks
extended_address_space_sizes =
    combine
    (cpuid_result (fields_mask (physical_address_size ∷ virtual_address_size ∷ [])) 0 0 0)
    (cpuid_result
    0
    (mask_of ExtendedAddressSpaceSizesEbx.position ExtendedAddressSpaceSizesEbx.kept)
    (fields_mask (nc ∷ apic_core_id_size ∷ []))
    (fields_mask (invlpgb_count_max ∷ rdpru_max_ecx ∷ [])))

-- 8000000Ah
unfoldable pub extended_svm : Masks
extended_svm = cpuid_result (fields_mask (svm_rev ∷ [])) 0 0 0

-- 80000019h
abbrev pub extended_tlb1_gb : Masks
extended_tlb1_gb = cpuid_result ones ones 0 0

-- 8000001Ah
unfoldable pub extended_optimization : Masks
extended_optimization = cpuid_result (mask_of ExtendedOptimizationIdentifiersEax.position ExtendedOptimizationIdentifiersEax.kept) 0 0 0

-- 8000001Eh
abbrev pub processor_topology : Masks
processor_topology = cpuid_result ones ones ones 0

-- "The secure-AVIC choice, yes or no, adds one bit to 8000001Fh.EAX"
unfoldable pub secure_avic_mask : Bool → ℕ
secure_avic_mask avic = pick avic (mask_of ExtendedSevFeaturesEax.position (ExtendedSevFeaturesEax.ExtendedSevFeaturesEax.secure_avic_bit ∷ [])) 0

-- 8000001Fh
unfoldable pub extended_sev : Bool → Masks
extended_sev avic =
    cpuid_result
    (bit_or (mask_of ExtendedSevFeaturesEax.position ExtendedSevFeaturesEax.kept) (secure_avic_mask avic))
    (fields_mask (cbit_position ∷ encryption_physical_bits_used ∷ number_of_vmpls ∷ []))
    ones
    ones
