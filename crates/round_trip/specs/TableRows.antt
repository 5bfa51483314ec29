-- The first row of a place in a table's list is the table's row there; rows 0 and 80000000h go to no place.
use Rattle.std.specs.Prelude.{◌≡◌, Bool, not, ◌&&◌, List, [], ◌∷◌, map, eqb}
use Rattle.std.proofs.Math.Path.{refl, sym}
use Rattle.std.proofs.Common.{ap, ap₂, ◌∙◌, inl, inr, eq-or-lt_of_le, arith, eqb-true, eq-eqb, ne_eqb}
use Rattle.std.proofs.Math.Bool.{true, false}
use Prim.Native.Nat.{ℕ, zero, suc, ◌+◌, ◌≤◌, ◌<◌}
use Rattle.std.specs.Int.Bits.{bit_and}
use Rattle.std.proofs.lemmas.Nat.{and_mask}
use Rattle.bits.specs.Choice.{pick}
use Rattle.bits.specs.ChoiceLaws.{pick_true, pick_false, pick_same, and_left, and_right}
use Rattle.bits.specs.Search.{every}
use Rattle.bits.specs.SearchLaws.{every_at}
use Rattle.bits.specs.Bits.{mask_of, field_mask}
use Rattle.bits.specs.BitsLaws.{and_assoc}
use Rattle.x86defs.specs.declared.CpuidResult.{CpuidResult}
use Rattle.x86defs.specs.Functions.{function, cpuid_result}
use Rattle.x86defs.specs.Fields.{fields_mask}
use Rattle.masking.specs.Masks.{Masks, ones, secure_avic_mask, version_and_features, extended_features, extended_state0, extended_state1, extended_version_and_features, extended_address_space_sizes, extended_svm, extended_optimization, extended_sev}
use Rattle.masking.specs.Kept.{kept_leaves, slot, places, place_of, leaf_at, subleaf_at, masks_at}
use Rattle.table.specs.Rows.{Row, row, vacant}
use Rattle.table.specs.declared.CpuidResults.{CpuidResults}
use Rattle.finish.specs.Finish.{rule_at}
use Rattle.finish.specs.Kinds.{from_entry}
use Rattle.table.specs.Table.{row_in}
use Rattle.collect.specs.FirstEntries.{masked_at, mask_row}
use Rattle.kvm_list.specs.Words.{low_word}
use Rattle.kvm_list.specs.WordsLaws.{cut_cut}
use Rattle.kvm_list.specs.Format.{ListRow, row_from}
use Rattle.kvm_list.specs.FormatLaws.{cut_row}
use Rattle.kvm_export.specs.Export.{list_row, rows_from}
use Rattle.round_trip.specs.PagesRead.{first_row, AllFit}
use Rattle.round_trip.specs.Reads.{of_row}
use Rattle.round_trip.specs.Again.{read_again}

-- ---- rows that were read fit

pub fit_cut : (rs : List ListRow) → AllFit (map cut_row rs)
fit_cut [] = tt
fit_cut (r ∷ rs) = (row_cut r, fit_cut rs)
  where
    row_cut : (r : ListRow) → cut_row (cut_row r) ≡ cut_row r
    row_cut r = λ k. record {
      leaf = cut_cut r.leaf k;
      index = cut_cut r.index k;
      flags = cut_cut r.flags k;
      registers =
          cpuid_result (cut_cut r.registers.eax k) (cut_cut r.registers.ebx k) (cut_cut r.registers.ecx k) (cut_cut r.registers.edx k);
      padding0 = cut_cut r.padding0 k;
      padding1 = cut_cut r.padding1 k;
      padding2 = cut_cut r.padding2 k;
    }

-- ---- where a table's row goes

abbrev cut_result : CpuidResult → CpuidResult
cut_result r = cpuid_result (low_word r.eax) (low_word r.ebx) (low_word r.ecx) (low_word r.edx)

abbrev goes_to : ℕ → ℕ
goes_to k = place_of (function (low_word (leaf_at k).0)) (low_word (subleaf_at k))

goes_to_lem : (k : ℕ) → k < places → goes_to k ≡ pick (from_entry (rule_at k)) k places
unfolding place_of slot kept_leaves
goes_to_lem k l = eqb-true _ _ (every_at (λ k. eqb (goes_to k) (pick (from_entry (rule_at k)) k places)) places refl k l)

goes_elsewhere : (k i : ℕ) → k < places → i < places → (k ≡ i → ⊥) → goes_to k ≡ i → ⊥
goes_elsewhere k i l u n e = go (from_entry (rule_at k)) (sym (goes_to_lem k l) ∙ e)
  where
    go : (b : Bool) → pick b k places ≡ i → ⊥
    go true q = n q
    go false q = omega arith

module _ (t : CpuidResults) (i : ℕ) (inside : i < places) where
  abbrev first_from : ℕ → ℕ → Row
  first_from k n = first_row i (map of_row (map cut_row (rows_from t k n)))

  abbrev stands : Row
  stands = pick (from_entry (rule_at i)) (pick (row_in t i).present (row (cut_result (row_in t i).result)) vacant) vacant

  -- a row of another place is passed over
  passes : (k n : ℕ) → k < places → (k ≡ i → ⊥) → first_from k (suc n) ≡ first_from (suc k) n
  unfolding rows_from first_row
  passes k n l h = go (row_in t k).present
    where
      go : (b : Bool) → first_row i (map of_row (map cut_row (pick b (list_row k (row_in t k).result ∷ rows_from t (suc k) n) (rows_from t
          (suc k) n)))) ≡ first_from (suc k) n
      go true = pick_false _ _ (ne_eqb (goes_to k) i (goes_elsewhere k i l inside h))
      go false = refl

  none_above : (k n : ℕ) → k + n ≤ places → i < k → first_from k n ≡ vacant
  unfolding rows_from first_row
  none_above k zero h u = refl
  none_above k (suc n) h u = passes k n (omega arith) (λ e. omega arith) ∙ none_above (suc k) n (omega arith) (omega arith)

  here : (n : ℕ) → i + suc n ≤ places → first_from i (suc n) ≡ stands
  unfolding rows_from first_row
  here n h = go (row_in t i).present (from_entry (rule_at i)) refl
    where
      go : (p f : Bool) → from_entry (rule_at i) ≡ f
          → first_row i (map of_row (map cut_row (pick p (list_row i (row_in t i).result ∷ rows_from t (suc i) n) (rows_from t (suc i) n))))
          ≡ pick f (pick p (row (cut_result (row_in t i).result)) vacant) vacant
      go true true e = pick_true _ _ (eq-eqb (goes_to i) i (goes_to_lem i inside ∙ pick_true _ _ e))
      go true false e =
          let q : goes_to i ≡ places = goes_to_lem i inside ∙ pick_false _ _ e in
          pick_false _ _ (ne_eqb (goes_to i) i (λ z. omega arith)) ∙ none_above (suc i) n (omega arith) (omega arith)
      go false f e = none_above (suc i) n (omega arith) (omega arith) ∙ sym (pick_same f vacant)

  first_stands : (k n : ℕ) → k + n ≤ places → k ≤ i → i < k + n → first_from k n ≡ stands
  first_stands k zero h l u = absurd (omega arith)
  first_stands k (suc n) h l u =
      elim (eq-or-lt_of_le l) [
        | inl q ↦ rw q (here n (omega arith))
        | inr q ↦ passes k n (omega arith) (λ e. omega arith) ∙ first_stands (suc k) n (omega arith) (omega arith) (omega arith)
      ]

  pub first_in_table : first_from 0 places ≡ stands
  first_in_table = first_stands 0 places (omega arith) (omega arith) (omega arith)

-- ---- masking needs no more than 32 bits

abbrev narrow : ℕ → Bool
narrow m = eqb (bit_and ones m) m

abbrev narrow_test : Bool → ℕ → Bool
narrow_test avic i = narrow (masks_at avic i).eax && (narrow (masks_at avic i).ebx && (narrow (masks_at avic i).ecx && narrow (masks_at avic i).edx))

all_narrow : (avic : Bool) → every (narrow_test avic) places ≡ true
unfolding slot kept_leaves version_and_features extended_features extended_state0 extended_state1 extended_version_and_features extended_address_space_sizes extended_svm extended_optimization extended_sev secure_avic_mask mask_of fields_mask field_mask
all_narrow true = refl
all_narrow false = refl

cut_masked : (x m : ℕ) → narrow m ≡ true → bit_and (low_word x) m ≡ bit_and x m
cut_masked x m e =
    ap (λ (y : ℕ). bit_and y m) (sym (and_mask x 32)) ∙ and_assoc x ones m ∙ ap (bit_and x) (eqb-true (bit_and ones m) m e)

mask_cut : (avic : Bool) (i : ℕ) → i < places → (r : CpuidResult) → masked_at avic i (cut_result r) ≡ masked_at avic i r
mask_cut avic i l r =
    let h : narrow_test avic i ≡ true = every_at (narrow_test avic) places (all_narrow avic) i l in
    let h₁ = and_right (narrow (masks_at avic i).eax) _ h in
    let h₂ = and_right (narrow (masks_at avic i).ebx) _ h₁ in
    rw (
      cut_masked r.eax (masks_at avic i).eax (and_left _ _ h),
      cut_masked r.ebx (masks_at avic i).ebx (and_left _ _ h₁),
      cut_masked r.ecx (masks_at avic i).ecx (and_left _ _ h₂),
      cut_masked r.edx (masks_at avic i).edx (and_right (narrow (masks_at avic i).ecx) _ h₂),
    )

-- the masked row of a place
pub masked_stands : (avic : Bool) (t : CpuidResults) (i : ℕ) (l : i < places) → mask_row avic i (stands t i l) ≡ read_again avic i (row_in t i)
masked_stands avic t i l = go (from_entry (rule_at i)) (row_in t i).present
  where
    go : (f p : Bool) → mask_row avic i (pick f (pick p (row (cut_result (row_in t i).result)) vacant) vacant)
        ≡ pick f (pick p (row (masked_at avic i (row_in t i).result)) vacant) vacant
    go true true = ap row (mask_cut avic i l (row_in t i).result)
    go true false = refl
    go false p = refl
