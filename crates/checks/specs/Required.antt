-- COMMON_REQUIRED_LEAVES of mod.rs, then SNP_REQUIRED_LEAVES of snp.rs, in list order.
use Rattle.std.specs.Prelude.{List, [], ◌∷◌, ◌++◌, ℕ, get_or, None, Option, Some}
use Rattle.x86defs.specs.declared.CpuidFunction.{CpuidFunction}
use Rattle.x86defs.specs.Functions.{VersionAndFeatures, MonitorMwait, ExtendedFeatures, ExtendedTopologyEnumeration, ExtendedStateEnumeration, ExtendedVersionAndFeatures, ExtendedBrandingString1, ExtendedBrandingString2, ExtendedBrandingString3, ExtendedL1CacheParameters, ExtendedL2CacheParameters, ExtendedPowerManagement, ExtendedAddressSpaceSizes, ExtendedSvmVersionAndFeatures, ExtendedTlb1GBIdentifiers, ExtendedOptimizationIdentifiers, CacheTopologyDefinition, ProcessorTopologyDefinition, ExtendedSevFeatures}
use Rattle.masking.specs.Kept.{place_of}

pub record Required : Type 0 where
  pub leaf : CpuidFunction
  pub subleaf : Option ℕ

abbrev whole : CpuidFunction → Required
whole l = record { leaf = l; subleaf = None }

abbrev sub : CpuidFunction → ℕ → Required
sub l k = record { leaf = l; subleaf = Some k }

unfoldable pub common_required_leaves : List Required
common_required_leaves =
    whole VersionAndFeatures
    ∷ whole MonitorMwait
    ∷ sub ExtendedFeatures 0
    ∷ sub ExtendedTopologyEnumeration 0
    ∷ sub ExtendedTopologyEnumeration 1
    ∷ whole ExtendedVersionAndFeatures
    ∷ whole ExtendedL1CacheParameters
    ∷ whole ExtendedL2CacheParameters
    ∷ whole ExtendedPowerManagement
    ∷ whole ExtendedAddressSpaceSizes
    ∷ whole ExtendedBrandingString1
    ∷ whole ExtendedBrandingString2
    ∷ whole ExtendedBrandingString3
    ∷ sub ExtendedStateEnumeration 0
    ∷ sub ExtendedStateEnumeration 1
    ∷ []

unfoldable pub snp_required_leaves : List Required
snp_required_leaves =
    whole ExtendedSevFeatures
    ∷ whole ExtendedSvmVersionAndFeatures
    ∷ whole ExtendedTlb1GBIdentifiers
    ∷ whole ExtendedOptimizationIdentifiers
    ∷ sub CacheTopologyDefinition 0
    ∷ sub CacheTopologyDefinition 1
    ∷ sub CacheTopologyDefinition 2
    ∷ sub CacheTopologyDefinition 3
    ∷ whole ProcessorTopologyDefinition
    ∷ []

-- how many they are
abbrev pub required_count : ℕ
required_count = 24

unfoldable pub required_at : ℕ → Required
unfolding common_required_leaves snp_required_leaves
required_at j = get_or (common_required_leaves ++ snp_required_leaves) j (whole VersionAndFeatures)

-- the place where its row stands
abbrev pub subleaf_number : Option ℕ → ℕ
subleaf_number None = 0
subleaf_number (Some k) = k

unfoldable pub place_required : ℕ → ℕ
place_required j = place_of (required_at j).leaf (subleaf_number (required_at j).subleaf)
