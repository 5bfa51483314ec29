-- Document 01, "Corners of masking.rs": the kept leaves, as one table of leaf, subleaves and masks, and the 88 places it gives.
-- Places rise by leaf, then by subleaf. Leaves 0 and 80000000h have places, but no page entry is kept for them: the builder makes their rows.
use Rattle.std.specs.Prelude.{Bool, true, false, ◌&&◌, List, [], ◌∷◌, ℕ, ◌+◌, ◌-◌, ltb, leb}
use Rattle.bits.specs.Choice.{pick}
use Rattle.x86defs.specs.declared.CpuidFunction.{CpuidFunction}
use Rattle.x86defs.specs.Functions.{function, cpuid_result, same_function, VendorAndMaxFunction, VersionAndFeatures, MonitorMwait, ExtendedFeatures, ExtendedTopologyEnumeration, ExtendedStateEnumeration, ExtendedMaxFunction, ExtendedVersionAndFeatures, ExtendedBrandingString1, ExtendedBrandingString2, ExtendedBrandingString3, ExtendedL1CacheParameters, ExtendedL2CacheParameters, ExtendedPowerManagement, ExtendedAddressSpaceSizes, ExtendedSvmVersionAndFeatures, ExtendedTlb1GBIdentifiers, ExtendedOptimizationIdentifiers, CacheTopologyDefinition, ProcessorTopologyDefinition, ExtendedSevFeatures}
use Rattle.masking.specs.Masks.{Masks, all_ones, version_and_features, extended_features, extended_state0, extended_state1, extended_version_and_features, extended_address_space_sizes, extended_svm, extended_tlb1_gb, extended_optimization, processor_topology, extended_sev}

-- which page entries a row of the table takes: `made` takes none, because the builder makes the row; `whole` takes every subleaf as one place;
-- `subleaves` takes those from the first number to the second, each as a place of its own
pub data Span : Type 0 where
  made whole : Span
  subleaves : ℕ → ℕ → Span

pub record Kept : Type 0 where
  pub leaf : CpuidFunction
  pub span : Span
  pub masks : Masks

abbrev kept : CpuidFunction → Span → Masks → Kept
kept l s m = record { leaf = l; span = s; masks = m }

unfoldable pub kept_leaves : Bool → List Kept
kept_leaves avic =
    kept VendorAndMaxFunction made (cpuid_result 0 0 0 0)
    ∷ kept VersionAndFeatures whole version_and_features
    ∷ kept MonitorMwait whole all_ones
    ∷ kept ExtendedFeatures (subleaves 0 0) extended_features
    ∷ kept ExtendedTopologyEnumeration (subleaves 0 1) all_ones
    ∷ kept ExtendedStateEnumeration (subleaves 0 0) extended_state0
    ∷ kept ExtendedStateEnumeration (subleaves 1 1) extended_state1
    ∷ kept ExtendedStateEnumeration (subleaves 2 63) all_ones
    ∷ kept ExtendedMaxFunction made (cpuid_result 0 0 0 0)
    ∷ kept ExtendedVersionAndFeatures whole extended_version_and_features
    ∷ kept ExtendedBrandingString1 whole all_ones
    ∷ kept ExtendedBrandingString2 whole all_ones
    ∷ kept ExtendedBrandingString3 whole all_ones
    ∷ kept ExtendedL1CacheParameters whole all_ones
    ∷ kept ExtendedL2CacheParameters whole all_ones
    ∷ kept ExtendedPowerManagement whole all_ones
    ∷ kept ExtendedAddressSpaceSizes whole extended_address_space_sizes
    ∷ kept ExtendedSvmVersionAndFeatures whole extended_svm
    ∷ kept ExtendedTlb1GBIdentifiers whole extended_tlb1_gb
    ∷ kept ExtendedOptimizationIdentifiers whole extended_optimization
    ∷ kept CacheTopologyDefinition (subleaves 0 3) all_ones
    ∷ kept ProcessorTopologyDefinition whole processor_topology
    ∷ kept ExtendedSevFeatures whole (extended_sev avic)
    ∷ []

-- how many places a row of the table has
abbrev pub places_of : Span → ℕ
places_of made = 1
places_of whole = 1
places_of (subleaves first last) = last - first + 1

abbrev pub places : ℕ
places = 88

-- the subleaf of the j-th place of a row of the table; 0 if the leaf has no subleaves
abbrev pub subleaf_of : Span → ℕ → ℕ
subleaf_of made j = 0
subleaf_of whole j = 0
subleaf_of (subleaves first last) j = first + j

abbrev pub has_subleaf : Span → Bool
has_subleaf made = false
has_subleaf whole = false
has_subleaf (subleaves first last) = true

-- whether a row of the table takes page entries with subleaf k
abbrev pub takes : Span → ℕ → Bool
takes made k = false
takes whole k = true
takes (subleaves first last) k = leb first k && leb k last

-- the place of subleaf k within its row of the table, counted from 0
abbrev pub within : Span → ℕ → ℕ
within made k = 0
within whole k = 0
within (subleaves first last) k = k - first

-- the place of a page entry with leaf l and subleaf k, where the rows of the table begin at place i; 88 if no row takes the entry
abbrev pub place_from : List Kept → ℕ → CpuidFunction → ℕ → ℕ
place_from [] i l k = places
place_from (r ∷ rs) i l k =
    pick (same_function r.leaf l && takes r.span k) (i + within r.span k) (place_from rs (i + places_of r.span) l k)

unfoldable pub place_of : CpuidFunction → ℕ → ℕ
unfolding kept_leaves
place_of l k = place_from (kept_leaves false) 0 l k

-- the leaf, the subleaf and the masks of a place
pub record Slot : Type 0 where
  pub leaf : CpuidFunction
  pub indexed : Bool
  pub subleaf : ℕ
  pub masks : Masks

abbrev pub slot_in : List Kept → ℕ → Slot
slot_in [] i = record { leaf = function 0; indexed = false; subleaf = 0; masks = cpuid_result 0 0 0 0 }
slot_in (r ∷ rs) i =
    pick (ltb i (places_of r.span))
    (record { leaf = r.leaf; indexed = has_subleaf r.span; subleaf = subleaf_of r.span i; masks = r.masks })
    (slot_in rs (i - places_of r.span))

unfoldable pub slot : Bool → ℕ → Slot
unfolding kept_leaves
slot avic i = slot_in (kept_leaves avic) i

-- leaf and subleaf of a place are the same for either secure-AVIC choice; its masks depend on it
abbrev pub leaf_at : ℕ → CpuidFunction
leaf_at i = (slot false i).leaf

abbrev pub indexed_at : ℕ → Bool
indexed_at i = (slot false i).indexed

abbrev pub subleaf_at : ℕ → ℕ
subleaf_at i = (slot false i).subleaf

abbrev pub masks_at : Bool → ℕ → Masks
masks_at avic i = (slot avic i).masks
