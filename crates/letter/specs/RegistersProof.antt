-- The registers that demand 3 compares, by leaf and subleaf, and what is kept of the rest: computed.
use Rattle.std.specs.Prelude.{◌≡◌, refl, Bool, true, false, not, ◌&&◌, ◌||◌, [], ◌∷◌, map, ℕ, None, Option}
use Rattle.bits.specs.Choice.{pick}
use Rattle.bits.specs.Bits.{field_mask, mask_of}
use Rattle.bits.specs.Lists.{tabulate, keep_if}
use Rattle.x86defs.specs.declared.CpuidResult.{CpuidResult}
use Rattle.x86defs.specs.Functions.{cpuid_result}
use Rattle.x86defs.specs.Fields.{fields_mask}
use Rattle.masking.specs.Masks as Masks
use Rattle.masking.specs.Kept.{kept_leaves, slot, leaf_at, masks_at}
use Rattle.table.specs.Rows.{Row, vacant}
use Rattle.finish.specs.Finish.{rule_at}
use Rattle.finish.specs.Kinds.{kinds_at, register_kinds, from_entry}
use Rattle.letter.specs.Paper.{name, masks_of, registers, lines, count_from, without, from_d2, is_kept, area, components, rows_verdict}
use Rattle.letter.specs.Names.{sub_at}

pub registers_same : tabulate 88 (λ i. record { leaf = (leaf_at i).0; subleaf = sub_at i; kinds = kinds_at i }) ≡ registers
unfolding tabulate kinds_at register_kinds slot kept_leaves
registers_same = refl

-- the rows of which demand 3 asks no entry, and the masks that entries are compared under
pub made_rows : map (λ (i : ℕ). name (leaf_at i).0 (sub_at i)) (keep_if (λ i. not (from_entry (rule_at i))) (tabulate 88 (λ i. i)))
    ≡ name 0x0 None ∷ name 0x80000000 None ∷ []
unfolding tabulate keep_if slot kept_leaves
made_rows = refl

pub masks_same : (avic : Bool) → tabulate 88 (masks_at avic) ≡ tabulate 88 (λ i. masks_of avic (leaf_at i).0 (sub_at i))
unfolding tabulate slot kept_leaves Masks.version_and_features Masks.extended_features Masks.extended_state0 Masks.extended_state1 Masks.extended_version_and_features Masks.extended_address_space_sizes Masks.extended_svm Masks.extended_optimization Masks.secure_avic_mask Masks.extended_sev fields_mask field_mask mask_of
masks_same true = refl
masks_same false = refl

pub rows_with_and_without : (n : ℕ) (avic : Bool) (e : ℕ → Option ℕ → CpuidResult)
    → count_from 0 (λ l. without l.subleaf && l.row.present) (lines n avic e)
    ∷ count_from 0 (λ l. not (without l.subleaf || from_d2 l.leaf l.subleaf) && l.row.present) (lines n avic e)
    ∷ count_from 0 (λ l. from_d2 l.leaf l.subleaf) (lines n avic e)
    ∷ []
    ≡ 17 ∷ 9 ∷ 62 ∷ []
unfolding tabulate
rows_with_and_without n avic e = refl

-- "All others are filtered."
pub rows_filtered : (n : ℕ) (avic : Bool) (e : ℕ → Option ℕ → CpuidResult)
    → lines n avic (λ l k. pick (is_kept l k) (e l k) (cpuid_result 0 0 0 0)) ≡ lines n avic e
unfolding tabulate area
rows_filtered n avic e = refl

pub verdict_filtered : (avic : Bool) (f : ℕ → Option ℕ → Row) → rows_verdict avic (λ l k. pick (is_kept l k) (f l k) vacant) ≡ rows_verdict avic f
unfolding components area
verdict_filtered avic f = refl
