-- The code's table of kept leaves gives each of the 88 places its masks.
use Rattle.std.specs.Prelude.{◌≡◌, refl, Bool, true, false, ◌||◌, List, [], ◌∷◌, map, ℕ, ◌-◌, ◌<◌, eqb, ltb, get_or}
use Rattle.std.proofs.Common.{sym, ◌∙◌}
use Rattle.bits.specs.Choice.{pick}
use Rattle.bits.specs.ChoiceLaws.{pick_false}
use Rattle.bits.specs.Bits.{mask_of, field_mask}
use Rattle.bits.specs.Lists.{tabulate}
use Rattle.bits.specs.ListsLaws.{tabulate_at}
use Rattle.x86defs.specs.Functions.{cpuid_result}
use Rattle.x86defs.specs.Fields.{fields_mask}
use Rattle.masking.specs.Masks.{Masks, all_ones, combine, version_and_features, extended_features, extended_state0, extended_state1, extended_version_and_features, extended_address_space_sizes, extended_svm, extended_optimization, extended_sev, secure_avic_mask}
use Rattle.masking.specs.Kept.{Kept, kept_leaves, places_of, places, slot_in, slot, masks_at}
use Rattle.masking.specs.Place
use Rattle.masking.specs.MaskTable.{kept_leaf, table, no_row, row_at, masks_of, row_number_in, row_of_place}

masks_in_lem : (rs : List Kept) (i : ℕ) → masks_of (get_or (map kept_leaf rs) (row_number_in rs i) no_row) ≡ (slot_in rs i).masks
masks_in_lem [] i = refl
masks_in_lem (r ∷ rs) i = go (masks_in_lem rs (i - n)) (ltb i n) refl
  where
    n : ℕ
    n = places_of r.span

    go : masks_of (get_or (map kept_leaf rs) (row_number_in rs (i - n)) no_row) ≡ (slot_in rs (i - n)).masks → (b : Bool) → ltb i n ≡ b
        → masks_of (get_or (map kept_leaf (r ∷ rs)) (row_number_in (r ∷ rs) i) no_row) ≡ (slot_in (r ∷ rs) i).masks
    go ih true e = rw e
    go ih false e = rw e ih

-- the masks of a place are those of its row
pub masks_of_row : (avic : Bool) (i : ℕ) → masks_of (row_at avic (row_of_place i)) ≡ masks_at avic i
unfolding table row_of_place slot kept_leaves
masks_of_row avic i = masks_in_lem (kept_leaves avic) i

-- document 01: the secure-AVIC choice "adds one bit to 8000001Fh.EAX"; it adds nothing to any other mask
abbrev pub added_to : Bool → ℕ → Masks
added_to avic i = combine (masks_at false i) (cpuid_result (pick (eqb i Place.extended_sev_features) (secure_avic_mask avic) 0) 0 0 0)

pub secure_avic_adds : (avic : Bool) (i : ℕ) → i < places → masks_at avic i ≡ added_to avic i
unfolding slot kept_leaves version_and_features extended_features extended_state0 extended_state1 extended_version_and_features extended_address_space_sizes extended_svm extended_optimization extended_sev secure_avic_mask mask_of fields_mask field_mask tabulate
secure_avic_adds true i h = tabulate_at places (masks_at true) (added_to true) refl i h
secure_avic_adds false i h = tabulate_at places (masks_at false) (added_to false) refl i h

-- ---- the places whose masks are not all ones, the last first

abbrev is_one : List ℕ → ℕ → Bool
is_one [] i = false
is_one (n ∷ ns) i = eqb i n || is_one ns i

abbrev pub is_basic_masked : ℕ → Bool
is_basic_masked =
    is_one (Place.extended_state 1 ∷ Place.extended_state 0 ∷ Place.extended_features ∷ Place.version_and_features ∷ Place.vendor_and_max_function ∷ [])

abbrev pub is_extended_masked : ℕ → Bool
is_extended_masked =
    is_one
    (Place.extended_sev_features ∷ Place.processor_topology_definition ∷ Place.extended_optimization_identifiers ∷ 80 ∷ 79
    ∷ Place.extended_address_space_sizes ∷ Place.extended_version_and_features ∷ Place.extended_max_function ∷ [])

abbrev pub is_masked : ℕ → Bool
is_masked i = is_extended_masked i || is_basic_masked i

others : (avic : Bool) (i : ℕ) → i < places → pick (is_masked i) all_ones (masks_at avic i) ≡ all_ones
unfolding slot kept_leaves version_and_features extended_features extended_state0 extended_state1 extended_version_and_features extended_address_space_sizes extended_svm extended_optimization extended_sev secure_avic_mask mask_of fields_mask field_mask tabulate
others true i h = tabulate_at places (λ i. pick (is_masked i) all_ones (masks_at true i)) (λ i. all_ones) refl i h
others false i h = tabulate_at places (λ i. pick (is_masked i) all_ones (masks_at false i)) (λ i. all_ones) refl i h

pub all_ones_lem : (avic : Bool) (i : ℕ) → i < places → is_masked i ≡ false → masks_at avic i ≡ all_ones
all_ones_lem avic i h n = sym (pick_false _ _ n) ∙ others avic i h
