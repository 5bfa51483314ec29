-- Demand 3 over page bytes: the rise of masked first entries, carried to the answers.
use Rattle.std.specs.Prelude.{◌≡◌, refl, Bool, true, false, List, ◌⊎◌, ℕ, ◌<◌, eqb, Ok}
use Rattle.std.proofs.Common.{sym, ap, ◌∙◌, subst, subst₂, inl, inr, ⊎_elim, eqb-true}
use Rattle.std.specs.Int.Bits.{and_zero_r}
use Rattle.bits.specs.Choice.{pick}
use Rattle.bits.specs.ChoiceLaws.{never_both, pick_true, pick_false}
use Rattle.bits.specs.Bits.{has, Within}
use Rattle.bits.specs.BitsLaws.{bit_has, within_or, within_refl}
use Rattle.x86defs.specs.declared.CpuidResult.{CpuidResult}
use Rattle.pages.specs.Entries.{counted}
use Rattle.masking.specs.Masks.{apply_mask, extended_state1}
use Rattle.masking.specs.Kept.{places, kept_leaves, slot, masks_at}
use Rattle.masking.specs.Place
use Rattle.table.specs.declared.Choices.{Choices}
use Rattle.table.specs.declared.Refusal.TheVariants.{SaveAreaOverflow}
use Rattle.table.specs.Refusal.{and_then}
use Rattle.table.specs.Rows.{Row, Rows, row, vacant}
use Rattle.checks.specs.ExtendedState.{combined_mask}
use Rattle.finish.specs.Finish.{ymm_clears, rule_at, finished}
use Rattle.finish.specs.FeatureLaws.{ClearsFewer}
use Rattle.finish.proofs.RemainsLaws.{finished_entry}
use Rattle.finish.specs.XsavesLaws.{XsavesEdx}
use Rattle.finish.specs.Kinds.{EntryAtLeast, TableAtLeast, Registers, register_kinds, kinds_at, from_entry}
use Rattle.checks.specs.Checks.{missing_component, components_verdict, area_verdict, rows_verdict}
use Rattle.checks.specs.ChecksLaws.{component_present, then_left, then_right, then_skips}
use Rattle.finish.specs.RowsBuilt.{table_for}
use Rattle.table.specs.TableLaws.{table_row}
use Rattle.table.specs.Table.{table_of, row_in}
use Rattle.collect.specs.FirstEntries.{first_at, mask_row, masked_at, legacy_features, rows_of}
use Rattle.collect.specs.FirstEntriesLaws.{row_of_place_lem}
use Rattle.build.specs.Build.{edition_verdict, rows_for, verdict_of, answer}
use Rattle.collect.specs.Lawful.{lawful_verdict}
use Rattle.refusals.specs.Conditions.{Lacking, ComponentFault, AreaFault}
use Rattle.refusals.specs.Settles.{Settles}
use Rattle.refusals.specs.Settles.Settles.{passes, refuses}
use Rattle.refusals.specs.ExtendedStateSettled.{components_decide, area_decides}
use Rattle.rise.specs.Rise.{EntryRises, FirstEntryRises, RiseHypothesis, HypothesisByTheLetter, Outcome, Further, TableRises, RiseTo, with_edition}
use Rattle.rise.specs.Rise.Outcome.{missing, overflow, accepted}
use Rattle.rise.specs.RowsRise.{present_rises, registers_rise_lem, others_further, mask_rises, verdict_rises}
use Rattle.table.specs.Verdict.{Verdict}

-- ---- the answer of an accepted page set

pub answer_table : (chosen : Choices) (s : List ℕ) → (answer chosen s).verdict ≡ Ok tt
    → (answer chosen s).table ≡ table_of (finished chosen.edition (rows_for chosen s)) (combined_mask (rows_for chosen s))
unfolding answer
answer_table chosen s e = ap (λ (v : Verdict). table_for chosen.edition v (rows_for chosen s)) e

pub accepted_rows : (chosen : Choices) (s : List ℕ) → (answer chosen s).verdict ≡ Ok tt → rows_verdict (rows_for chosen s) ≡ Ok tt
unfolding answer verdict_of
accepted_rows chosen s e = then_right (lawful_verdict s) _ (then_right (edition_verdict chosen.edition) _ e)

-- its edition is 1 or 2, and its pages are lawful
pub accepted_edition : (chosen : Choices) (s : List ℕ) → (answer chosen s).verdict ≡ Ok tt → edition_verdict chosen.edition ≡ Ok tt
unfolding answer verdict_of
accepted_edition chosen s e = then_left (edition_verdict chosen.edition) _ e

pub accepted_lawful : (chosen : Choices) (s : List ℕ) → (answer chosen s).verdict ≡ Ok tt → lawful_verdict s ≡ Ok tt
unfolding answer verdict_of
accepted_lawful chosen s e = then_left (lawful_verdict s) _ (then_right (edition_verdict chosen.edition) _ e)

pub answer_row : (chosen : Choices) (s : List ℕ) → (answer chosen s).verdict ≡ Ok tt → (i : ℕ) → i < places
    → row_in (answer chosen s).table i ≡ finished chosen.edition (rows_for chosen s) i
answer_row chosen s e i l = ap (λ t. row_in t i) (answer_table chosen s e) ∙ table_row (finished chosen.edition (rows_for chosen s)) (combined_mask (rows_for chosen s)) i l

pub answer_mask : (chosen : Choices) (s : List ℕ) → (answer chosen s).verdict ≡ Ok tt
    → (answer chosen s).table.max_extended_state ≡ combined_mask (rows_for chosen s)
answer_mask chosen s e = ap (λ t. t.max_extended_state) (answer_table chosen s e)

-- ---- D.1.EDX is masked to 0

xsaves_mask : (avic : Bool) → (masks_at avic (Place.extended_state 1)).edx ≡ 0
unfolding slot kept_leaves extended_state1
xsaves_mask avic = refl

mask_row_edx : (avic : Bool) (i : ℕ) (r : Row) → (masks_at avic i).edx ≡ 0 → (mask_row avic i r).result.edx ≡ 0
mask_row_edx avic i r e = go r.present
  where
    go : (b : Bool) → (pick b (row (masked_at avic i r.result)) vacant).result.edx ≡ 0
    go true = rw e (and_zero_r r.result.edx)
    go false = refl

pub xsaves_edx : (avic : Bool) (s : List ℕ) → XsavesEdx (rows_of avic s)
unfolding rows_of
xsaves_edx avic s = mask_row_edx avic (Place.extended_state 1) (first_at (Place.extended_state 1) (counted s)) (xsaves_mask avic)

-- ---- what the checks of the extended state say

none_lacking : (m : Rows) → components_verdict m ≡ Ok tt → (k : ℕ) → Lacking m k → ⊥
none_lacking m e k l =
    never_both (component_present m e k l.from l.below (bit_has k (combined_mask m) l.needed)) l.absent

outcome_of : (m : Rows) → Outcome m (and_then (components_verdict m) (area_verdict m))
outcome_of m = go (components_decide m) (area_decides m)
  where
    go : Settles (λ q. (k : ℕ) × ComponentFault m k × (q ≡ missing_component k)) (components_verdict m)
        → Settles (λ q. AreaFault m × (q ≡ SaveAreaOverflow)) (area_verdict m) → Outcome m (and_then (components_verdict m) (area_verdict m))
    go (refuses r e (k, f, p) one) d = missing k f (rw (e, p))
    go (passes e none) (refuses r f (g, p) one) = overflow (none_lacking m e) g (rw (e, f, p))
    go (passes e none) (passes f no-sum) = accepted (none_lacking m e) (λ g. no-sum SaveAreaOverflow (g, refl)) (rw (e, f))

-- ---- demand 3, with B under edition n

module _ (chosen : Choices) (n : ℕ) (known : edition_verdict n ≡ Ok tt) (fewer : ClearsFewer (ymm_clears chosen.edition) (ymm_clears n))
    (a b : List ℕ) (rises : RiseHypothesis chosen a b) where
  abbrev choice_b : Choices
  choice_b = with_edition chosen n

  entries_ab : (i : ℕ) → i < places → from_entry (rule_at i) ≡ true → (finished chosen.edition (rows_for chosen a) i).present ≡ true
      → EntryRises i (rows_for chosen a i) (rows_for choice_b b i)
  entries_ab i l f p = rises.entries i l f (ap (λ (r : Row). r.present) (answer_row chosen a rises.accepted i l) ∙ p)

  rows_a : rows_verdict (rows_for chosen a) ≡ Ok tt
  rows_a = accepted_rows chosen a rises.accepted

  verdict_b : (answer choice_b b).verdict ≡ and_then (components_verdict (rows_for choice_b b)) (area_verdict (rows_for choice_b b))
  unfolding answer verdict_of
  verdict_b =
      then_skips known
      ∙ then_skips rises.lawful
      ∙ verdict_rises chosen.edition n fewer (rows_for chosen a) (rows_for choice_b b) (xsaves_edx chosen.secure_avic a) (xsaves_edx chosen.secure_avic b) rows_a entries_ab

  -- the rows of both answers are the finished rows
  module _ (e : (answer choice_b b).verdict ≡ Ok tt) where
    row_a : (i : ℕ) → i < places → row_in (answer chosen a).table i ≡ finished chosen.edition (rows_for chosen a) i
    row_a = answer_row chosen a rises.accepted

    row_b : (i : ℕ) → i < places → row_in (answer choice_b b).table i ≡ finished n (rows_for choice_b b) i
    row_b = answer_row choice_b b e

    to_a : (i : ℕ) → i < places → (row_in (answer chosen a).table i).present ≡ true → (finished chosen.edition (rows_for chosen a) i).present ≡ true
    to_a i l p = sym (ap (λ (r : Row). r.present) (row_a i l)) ∙ p

    rows_ab : (i : ℕ) → i < places → (row_in (answer chosen a).table i).present ≡ true → (row_in (answer choice_b b).table i).present ≡ true
    rows_ab i l p =
        ap (λ (r : Row). r.present) (row_b i l)
        ∙ present_rises chosen.edition n fewer (rows_for chosen a) (rows_for choice_b b) (xsaves_edx chosen.secure_avic a) (xsaves_edx chosen.secure_avic b) rows_a entries_ab i l (to_a i l p)

    registers_ab : (i : ℕ) → i < places → (row_in (answer chosen a).table i).present ≡ true
        → Registers TableAtLeast (kinds_at i) (row_in (answer chosen a).table i).result (row_in (answer choice_b b).table i).result
    registers_ab i l p =
        subst₂ (λ (x y : Row). Registers TableAtLeast (kinds_at i) x.result y.result) (sym (row_a i l)) (sym (row_b i l))
        (registers_rise_lem chosen.edition n fewer (rows_for chosen a) (rows_for choice_b b) (xsaves_edx chosen.secure_avic a) (xsaves_edx chosen.secure_avic b) rows_a entries_ab i l (to_a i l p))

    others_ab : (i : ℕ) → i < places → (row_in (answer choice_b b).table i).present ≡ true
        → ((row_in (answer chosen a).table i).present ≡ true) ⊎ Further (answer chosen a).table (answer choice_b b).table i
    others_ab i l p =
        ⊎_elim (λ q. inl (ap (λ (r : Row). r.present) (row_a i l) ∙ q))
        (λ (k, at, low, high, in_b, not_in_a). inr (record {
          subleaf = k;
          place = at;
          from = low;
          below = high;
          in_b = ap (has k) (answer_mask choice_b b e) ∙ in_b;
          not_in_a = ap (has k) (answer_mask chosen a rises.accepted) ∙ not_in_a;
        }))
        (others_further chosen.edition n fewer (rows_for chosen a) (rows_for choice_b b) (xsaves_edx chosen.secure_avic a) (xsaves_edx chosen.secure_avic b) rows_a entries_ab i l
        (sym (ap (λ (r : Row). r.present) (row_b i l)) ∙ p))

    mask_ab : Within (answer chosen a).table.max_extended_state (answer choice_b b).table.max_extended_state
    mask_ab =
        subst₂ Within (sym (answer_mask chosen a rises.accepted)) (sym (answer_mask choice_b b e))
        (mask_rises chosen.edition n fewer (rows_for chosen a) (rows_for choice_b b) (xsaves_edx chosen.secure_avic a) (xsaves_edx chosen.secure_avic b) rows_a entries_ab)

    table_ab : TableRises (answer chosen a).table (answer choice_b b).table
    table_ab = record { rows = rows_ab; registers = registers_ab; others = others_ab; mask = mask_ab }

  pub risen : RiseTo chosen choice_b a b
  risen = record { outcome = rw verdict_b (outcome_of (rows_for choice_b b)); table = table_ab }

-- ---- by the letter: entries compared as masked compare with D.0.EAX's bits 0 and 1 set, too

-- at D.0 itself, where two bits are set in both
letter_state : (avic : Bool) (x y : CpuidResult)
    → Registers EntryAtLeast (kinds_at (Place.extended_state 0)) (apply_mask (masks_at avic (Place.extended_state 0)) x)
    (apply_mask (masks_at avic (Place.extended_state 0)) y)
    → Registers EntryAtLeast (kinds_at (Place.extended_state 0)) (masked_at avic (Place.extended_state 0) x) (masked_at avic (Place.extended_state 0) y)
unfolding kinds_at register_kinds slot kept_leaves
letter_state avic x y h = record { eax = within_or h.eax (within_refl legacy_features); ebx = h.ebx; ecx = h.ecx; edx = h.edx }

letter_registers : (avic : Bool) (x y : CpuidResult) (i : ℕ)
    → Registers EntryAtLeast (kinds_at i) (apply_mask (masks_at avic i) x) (apply_mask (masks_at avic i) y)
    → Registers EntryAtLeast (kinds_at i) (masked_at avic i x) (masked_at avic i y)
letter_registers avic x y i = go (eqb i (Place.extended_state 0)) refl
  where
    go : (b : Bool) → eqb i (Place.extended_state 0) ≡ b
        → Registers EntryAtLeast (kinds_at i) (apply_mask (masks_at avic i) x) (apply_mask (masks_at avic i) y)
        → Registers EntryAtLeast (kinds_at i) (masked_at avic i x) (masked_at avic i y)
    go true e =
        subst
        (λ (n : ℕ). Registers EntryAtLeast (kinds_at n) (apply_mask (masks_at avic n) x) (apply_mask (masks_at avic n) y)
        → Registers EntryAtLeast (kinds_at n) (masked_at avic n x) (masked_at avic n y))
        (sym (eqb-true i (Place.extended_state 0) e)) (letter_state avic x y)
    go false e = λ h. record {
      eax = subst₂ (EntryAtLeast (kinds_at i).eax) (sym (pick_false _ _ e)) (sym (pick_false _ _ e)) h.eax;
      ebx = h.ebx;
      ecx = h.ecx;
      edx = h.edx;
    }

mask_row_present : (avic : Bool) (i : ℕ) (r : Row) → (mask_row avic i r).present ≡ r.present
mask_row_present avic i r = go r.present
  where
    go : (b : Bool) → (pick b (row (masked_at avic i r.result)) vacant).present ≡ b
    go true = refl
    go false = refl

mask_row_result : (avic : Bool) (i : ℕ) (r : Row) → r.present ≡ true → (mask_row avic i r).result ≡ masked_at avic i r.result
mask_row_result avic i r e = ap (λ (q : Row). q.result) (pick_true (row (masked_at avic i r.result)) vacant e)

letter_entry : (avic : Bool) (i : ℕ) (x y : Row) → x.present ≡ true → FirstEntryRises avic i x y → EntryRises i (mask_row avic i x) (mask_row avic i y)
letter_entry avic i x y e h = record {
  present = mask_row_present avic i y ∙ h.present;
  registers =
      subst₂ (Registers EntryAtLeast (kinds_at i)) (sym (mask_row_result avic i x e)) (sym (mask_row_result avic i y h.present))
      (letter_registers avic x.result y.result i h.registers);
}

pub letter_rises : (chosen : Choices) (a b : List ℕ) → HypothesisByTheLetter chosen a b → RiseHypothesis chosen a b
letter_rises chosen a b h = record {
  accepted = h.accepted;
  lawful = h.lawful;
  entries = λ i l f p.
      subst₂ (EntryRises i) (sym (row_of_place_lem chosen.secure_avic a i l)) (sym (row_of_place_lem chosen.secure_avic b i l))
      (letter_entry chosen.secure_avic i (first_at i (counted a)) (first_at i (counted b))
      (sym (ap (λ (r : Row). r.present) (row_of_place_lem chosen.secure_avic a i l) ∙ mask_row_present chosen.secure_avic i (first_at i (counted a)))
      ∙ finished_entry chosen.edition (rows_for chosen a) i l f (sym (ap (λ (r : Row). r.present) (answer_row chosen a h.accepted i l)) ∙ p))
      (h.entries i l f p));
}
