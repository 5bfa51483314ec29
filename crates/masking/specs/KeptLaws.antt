-- The places of the table of kept leaves. There are 88. Each named place is the one that the table gives. The leaf and the subleaf of a place
-- lead back to it. An entry that goes to a place has that place's leaf and, if the place has a subleaf, that subleaf.
use Rattle.std.specs.Prelude.{◌≡◌, refl, Bool, true, false, ◌&&◌, List, [], ◌∷◌, ℕ, ◌+◌, ◌-◌, ◌≤◌, ◌<◌, eqb, leb}
use Rattle.std.proofs.Common.{ap, subst, arith, lit<, eqb-true, leb-true, lt-ltb, le-ltb}
use Rattle.std.proofs.lemmas.Bool.{false≢true}
use Rattle.std.proofs.Math.Nat.{sub-zero}
use Rattle.bits.specs.Choice.{pick}
use Rattle.bits.specs.ChoiceLaws.{and_left, and_right}
use Rattle.bits.specs.SearchLaws.{every_at}
use Rattle.x86defs.specs.declared.CpuidFunction.{CpuidFunction}
use Rattle.x86defs.specs.Functions.{function, same_function, VendorAndMaxFunction, VersionAndFeatures, MonitorMwait, ExtendedFeatures, ExtendedTopologyEnumeration, ExtendedStateEnumeration, ExtendedMaxFunction, ExtendedVersionAndFeatures, ExtendedAddressSpaceSizes, ExtendedOptimizationIdentifiers, CacheTopologyDefinition, ProcessorTopologyDefinition, ExtendedSevFeatures}
use Rattle.masking.specs.Kept.{Span, Kept, kept_leaves, places_of, places, subleaf_of, has_subleaf, takes, within, place_from, place_of, Slot, slot_in, slot, leaf_at, subleaf_at}
use Rattle.masking.specs.Kept.Span.{made, whole, subleaves}
use Rattle.masking.specs.Place
use Rattle.masking.specs.Place.{made_here}

same_function_lem : (a b : CpuidFunction) → same_function a b ≡ true → a ≡ b
same_function_lem a b e = ap function (eqb-true a.0 b.0 e)

-- ---- the number of places

abbrev places_in : List Kept → ℕ
places_in [] = 0
places_in (r ∷ rs) = places_of r.span + places_in rs

pub places_in_all : (avic : Bool) → places_in (kept_leaves avic) ≡ places
unfolding kept_leaves
places_in_all avic = refl

-- ---- the named places

-- of a leaf without subleaves, for any subleaf of an entry
pub named_leaves : (k : ℕ)
    → place_of VersionAndFeatures k
    ∷ place_of MonitorMwait k
    ∷ place_of ExtendedVersionAndFeatures k
    ∷ place_of ExtendedAddressSpaceSizes k
    ∷ place_of ExtendedOptimizationIdentifiers k
    ∷ place_of ProcessorTopologyDefinition k
    ∷ place_of ExtendedSevFeatures k
    ∷ []
    ≡ Place.version_and_features
    ∷ Place.monitor_mwait
    ∷ Place.extended_version_and_features
    ∷ Place.extended_address_space_sizes
    ∷ Place.extended_optimization_identifiers
    ∷ Place.processor_topology_definition
    ∷ Place.extended_sev_features
    ∷ []
unfolding place_of kept_leaves
named_leaves k = refl

-- of a leaf with subleaves
pub named_subleaves :
    place_of ExtendedFeatures 0 ∷ place_of ExtendedTopologyEnumeration 0 ∷ place_of ExtendedTopologyEnumeration 1 ∷ place_of CacheTopologyDefinition 0 ∷ []
    ≡ Place.extended_features ∷ Place.thread_level ∷ Place.core_level ∷ Place.cache_topology 0 ∷ []
unfolding place_of kept_leaves
named_subleaves = refl

-- D.k
pub extended_state_place : (k : ℕ) → k < 64 → place_of ExtendedStateEnumeration k ≡ Place.extended_state k
unfolding place_of kept_leaves
extended_state_place k h = eqb-true _ _ (every_at (λ k. eqb (place_of ExtendedStateEnumeration k) (Place.extended_state k)) 64 refl k h)

pub made_leaves :
    leaf_at Place.vendor_and_max_function ∷ leaf_at Place.extended_max_function ∷ [] ≡ VendorAndMaxFunction ∷ ExtendedMaxFunction ∷ []
unfolding slot kept_leaves
made_leaves = refl

-- ---- from a place to its leaf and subleaf, and back

pub place_of_slot : (i : ℕ) → i < places → place_of (leaf_at i) (subleaf_at i) ≡ pick (made_here i) places i
unfolding place_of slot kept_leaves
place_of_slot i h =
    eqb-true _ _ (every_at (λ i. eqb (place_of (leaf_at i) (subleaf_at i)) (pick (made_here i) places i)) places refl i h)

-- the first place of a leaf, in a table whose rows begin at place i
abbrev leaf_start : List Kept → ℕ → CpuidFunction → ℕ
leaf_start [] i l = i
leaf_start (r ∷ rs) i l = pick (same_function r.leaf l) i (leaf_start rs (i + places_of r.span) l)

unfoldable pub first_place : CpuidFunction → ℕ
unfolding kept_leaves
first_place l = leaf_start (kept_leaves false) 0 l

-- the places of a leaf stand together, in the order of their subleaves
pub place_from_first : (i : ℕ) → i < places → i ≡ first_place (leaf_at i) + subleaf_at i
unfolding first_place slot kept_leaves
place_from_first i h = eqb-true _ _ (every_at (λ i. eqb i (first_place (leaf_at i) + subleaf_at i)) places refl i h)

-- the secure-AVIC choice changes only masks
pub slot_either_choice : (i : ℕ) → i < places → ((slot true i).leaf ≡ leaf_at i) × ((slot true i).subleaf ≡ subleaf_at i)
unfolding slot kept_leaves
slot_either_choice i h = (
  same_function_lem _ _ (every_at (λ i. same_function (slot true i).leaf (leaf_at i)) places refl i h),
  eqb-true _ _ (every_at (λ i. eqb (slot true i).subleaf (subleaf_at i)) places refl i h),
)

-- ---- where an entry goes

-- an entry of leaf l and subleaf k belongs to this slot
pub record Belongs (l : CpuidFunction) (k : ℕ) (t : Slot) : Type 0 where
  pub leaf : t.leaf ≡ l
  pub subleaf : t.indexed ≡ true → t.subleaf ≡ k

-- a subleaf that a row of the table takes has a place in that row, and the place has this subleaf
span_takes : (t : Span) (k : ℕ) → takes t k ≡ true → (within t k < places_of t) × (has_subleaf t ≡ true → subleaf_of t (within t k) ≡ k)
span_takes made k e = absurd (false≢true e)
span_takes whole k e = (lit< tt, λ h. absurd (false≢true h))
span_takes (subleaves first last) k e =
    let low : first ≤ k = leb-true first k (and_left _ _ e) in
    let high : k ≤ last = leb-true k last (and_right (leb first k) _ e) in
    (omega arith, λ h. omega arith)

belongs_from : (rs : List Kept) (i : ℕ) (l : CpuidFunction) (k p : ℕ) → place_from rs i l k ≡ p → p < places
    → (i ≤ p) × Belongs l k (slot_in rs (p - i))
belongs_from [] i l k p e h = absurd (omega arith)
belongs_from (r ∷ rs) i l k p e h = go (belongs_from rs (i + n) l k p) (same_function r.leaf l && takes r.span k) refl e
  where
    n : ℕ
    n = places_of r.span

    go : (place_from rs (i + n) l k ≡ p → p < places → (i + n ≤ p) × Belongs l k (slot_in rs (p - (i + n))))
        → (b : Bool) → (same_function r.leaf l && takes r.span k) ≡ b
        → pick b (i + within r.span k) (place_from rs (i + n) l k) ≡ p → (i ≤ p) × Belongs l k (slot_in (r ∷ rs) (p - i))
    go ih true t f =
        let inside = span_takes r.span k (and_right (same_function r.leaf l) _ t) in
        let d : p - i ≡ within r.span k = omega arith in
        (omega arith, rw (d, lt-ltb _ _ inside.0) (record { leaf = same_function_lem r.leaf l (and_left _ _ t); subleaf = inside.1 }))
    go ih false t f =
        let later = ih f h in
        let d : p - i - n ≡ p - (i + n) = omega arith in
        (omega arith, rw (le-ltb (p - i) n (omega arith), d) later.1)

-- an entry that goes to one of the 88 places has that place's leaf and, if the place has a subleaf, that subleaf
pub entry_belongs : (l : CpuidFunction) (k i : ℕ) → place_of l k ≡ i → i < places → Belongs l k (slot false i)
unfolding place_of slot kept_leaves
entry_belongs l k i e h = subst (λ (n : ℕ). Belongs l k (slot false n)) (sub-zero i) (belongs_from (kept_leaves false) 0 l k i e h).1
