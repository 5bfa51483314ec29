-- Wherever the required leaves are there, the flip of 80000008h.EBX bit 3, INVLPGB, changes the answer: only that check gives number 4.
use Rattle.std.specs.Prelude.{◌≡◌, refl, Bool, true, false, not, ◌&&◌, ℕ, ◌/◌, ◌%◌, ◌^◌, ◌<◌, eqb, Err, None, Ok, Option, Result, Some}
use Rattle.std.proofs.Common.{sym, ap, ap₂, ◌∙◌, arith, eqb-true}
use Rattle.std.specs.Int.Bits.{bit_xor}
use Rattle.bits.specs.ChoiceLaws.{and_left}
use Rattle.bits.specs.Search.{Failing, every, lowest}
use Rattle.bits.specs.Search.Failing.{at, none}
use Rattle.bits.specs.SearchLaws.{every_at}
use Rattle.bits.specs.Bits.{bit, has, mask_of, field_mask}
use Rattle.bits.specs.BitsLaws.{bit_has, bit_has_not, has_bit, has_not}
use Rattle.bits.proofs.BitsLaws.{has_and}
use Rattle.x86defs.specs.declared.CpuidResult.{CpuidResult}
use Rattle.x86defs.specs.Fields.{fields_mask}
use Rattle.topology.specs.declared.TopologyError.TheVariants.{Hyperthreading, ProcessorCount, ThreadsPerUnit}
use Rattle.topology.specs.Topology.{topology_of}
use Rattle.masking.specs.Masks.{extended_address_space_sizes}
use Rattle.masking.specs.Kept.{kept_leaves, slot, masks_at}
use Rattle.masking.specs.Place
use Rattle.table.specs.declared.Refusal.TheVariants.{InvlpgbUnavailable}
use Rattle.table.specs.Refusal.{and_then}
use Rattle.table.specs.Rows.{Row, Rows, row}
use Rattle.checks.specs.ExtendedState.{combined_mask, supplied, save_area, xfem, size_of}
use Rattle.checks.specs.TopologyInputs.{inputs_of}
use Rattle.checks.specs.Checks.{refuse_at, missing_component, size_verdict, topology_refusal, required_verdict, invlpgb_verdict, components_of, components_verdict, area_verdict, topology_verdict, rows_verdict}
use Rattle.collect.specs.FirstEntries.{masked_at}
use Rattle.table.specs.Numbers.{numbers_of}
use Rattle.nearest.specs.OneBit.{bit_in, one_bit, xor_result}
use Rattle.nearest.specs.SameVerdict.{same_numbers, same_answer, same_from}
use Rattle.finish.specs.RowsBuilt.{table_for}
use Rattle.nearest.proofs.SameLaws.{answer_same}
use Rattle.nearest.specs.WithRow.{with_row}
use Rattle.nearest.specs.WithRowLaws.{required_same}
use Rattle.nearest.specs.FlippedMaskLaws.{bit_xor_lem}
use Rattle.table.specs.Verdict.{Verdict}
use Rattle.topology.specs.declared.TopologyError.{TopologyError}

abbrev number : Verdict → ℕ
number v = (numbers_of v).number

-- ---- refusal 4 is given by one check alone

from_topology : (t : Result ℕ TopologyError) → number (topology_refusal t) ≡ 4 → ⊥
from_topology (Ok v) e = omega arith
from_topology (Err (Hyperthreading s)) e = omega arith
from_topology (Err (ProcessorCount s)) e = omega arith
from_topology (Err ThreadsPerUnit) e = omega arith

from_components_lem : (m : Rows) → number (and_then (components_verdict m) (and_then (area_verdict m) (topology_verdict m))) ≡ 4 → ⊥
unfolding components_verdict components_of area_verdict topology_verdict
from_components_lem m = go (lowest (supplied m (combined_mask m)) 2 62) (size_of (save_area m (xfem m)))
  where
    go : (f : Failing) (z : Option ℕ)
        → number (and_then (refuse_at f missing_component) (and_then (size_verdict z) (topology_refusal (topology_of (inputs_of m))))) ≡ 4 → ⊥
    go (at j) z e = omega arith
    go none None e = omega arith
    go none (Some n) e = from_topology (topology_of (inputs_of m)) e

-- ---- INVLPGB decides wherever the required leaves are there

abbrev pub invlpgb : Rows → Bool
invlpgb m = has 3 (m Place.extended_address_space_sizes).result.ebx

four : (m : Rows) → required_verdict m ≡ Ok tt → invlpgb m ≡ false → number (rows_verdict m) ≡ 4
unfolding rows_verdict invlpgb_verdict
four m e f = rw (e, f)

pub not_four : (m : Rows) → required_verdict m ≡ Ok tt → invlpgb m ≡ true → number (rows_verdict m) ≡ 4 → ⊥
unfolding rows_verdict invlpgb_verdict
not_four m e f = rw (e, f) (from_components_lem m)

same_number : (n : ℕ) (o m : Rows) → same_from n o m ≡ true → number (rows_verdict o) ≡ number (rows_verdict m)
unfolding same_answer same_numbers
same_number n o m e = eqb-true _ _ (and_left _ _ (and_left _ _ e))

invlpgb_decides : (n : ℕ) (m o : Rows) → required_verdict m ≡ Ok tt → required_verdict o ≡ Ok tt → invlpgb o ≡ not (invlpgb m)
    → same_from n o m ≡ false
invlpgb_decides n m o e f g = go (same_from n o m) refl (invlpgb m) refl
  where
    go : (a : Bool) → same_from n o m ≡ a → (b : Bool) → invlpgb m ≡ b → a ≡ false
    go true p true q = absurd (not_four m e q (sym (same_number n o m p) ∙ four o f (g ∙ ap not q)))
    go true p false q = absurd (not_four o f (g ∙ ap not q) (same_number n o m p ∙ four m e q))
    go false p b q = refl

mask_has : (avic : Bool) → has 3 (masks_at avic Place.extended_address_space_sizes).ebx ≡ true
unfolding slot kept_leaves has bit extended_address_space_sizes mask_of fields_mask field_mask
mask_has true = refl
mask_has false = refl

eight : bit 3 (2 ^ 3) ≡ 1
unfolding bit
eight = refl

xor_has : (x : ℕ) → has 3 (bit_xor x (2 ^ 3)) ≡ not (has 3 x)
xor_has x = go (has 3 x) refl
  where
    go : (b : Bool) → has 3 x ≡ b → has 3 (bit_xor x (2 ^ 3)) ≡ not b
    go true e = bit_has_not 3 _ (omega (arith, bit_xor_lem 3 x (2 ^ 3), eight, has_bit 3 x e))
    go false e = bit_has 3 _ (omega (arith, bit_xor_lem 3 x (2 ^ 3), eight, has_not 3 x e))

-- flip 35 of 80000008h: EBX bit 3
flip_35 : (avic : Bool) (x : CpuidResult)
    → has 3 (masked_at avic Place.extended_address_space_sizes (xor_result x (one_bit 1 3))).ebx
    ≡ not (has 3 (masked_at avic Place.extended_address_space_sizes x).ebx)
unfolding bit_in
flip_35 avic x =
    has_and 3 (bit_xor x.ebx (2 ^ 3)) _ ∙ ap₂ ◌&&◌ (xor_has x.ebx) (mask_has avic) ∙ go (has 3 x.ebx)
    ∙ ap not (sym (has_and 3 x.ebx _ ∙ ap (λ (b : Bool). has 3 x.ebx && b) (mask_has avic)))
  where
    go : (b : Bool) → (not b && true) ≡ not (b && true)
    go true = refl
    go false = refl

pub invlpgb_flip : (avic : Bool) (n : ℕ) (m : Rows) (x : CpuidResult) → required_verdict m ≡ Ok tt
    → m Place.extended_address_space_sizes ≡ row (masked_at avic Place.extended_address_space_sizes x)
    → same_from n (with_row Place.extended_address_space_sizes (masked_at avic Place.extended_address_space_sizes (xor_result x (one_bit 1 3))) m) m ≡ false
unfolding with_row
invlpgb_flip avic n m x e f =
    invlpgb_decides n m _ e (required_same Place.extended_address_space_sizes _ m (ap (λ (r : Row). r.present) f) ∙ e)
    (flip_35 avic x ∙ ap (λ (r : Row). not (has 3 r.result.ebx)) (sym f))

-- ---- the bits of 80000008h before it leave INVLPGB as it is

xor_keeps : (x d : ℕ) → bit 3 d ≡ 0 → has 3 (bit_xor x d) ≡ has 3 x
xor_keeps x d z = go (has 3 x) refl
  where
    go : (b : Bool) → has 3 x ≡ b → has 3 (bit_xor x d) ≡ b
    go true e = bit_has 3 _ (omega (arith, bit_xor_lem 3 x d, z, has_bit 3 x e))
    go false e = bit_has_not 3 _ (omega (arith, bit_xor_lem 3 x d, z, has_not 3 x e))

-- of the 35 bits before it none is bit 3 of EBX
not_bit_3 : ℕ → Bool
not_bit_3 j = eqb (bit 3 (bit_in (j / 32) (j % 32) 1)) 0

all_not_bit_3 : every not_bit_3 35 ≡ true
unfolding not_bit_3 bit bit_in
all_not_bit_3 = refl

pub flip_below : (avic : Bool) (x : CpuidResult) (j : ℕ) → j < 35
    → has 3 (masked_at avic Place.extended_address_space_sizes (xor_result x (one_bit (j / 32) (j % 32)))).ebx
    ≡ has 3 (masked_at avic Place.extended_address_space_sizes x).ebx
unfolding not_bit_3
flip_below avic x j l =
    has_and 3 (bit_xor x.ebx (bit_in (j / 32) (j % 32) 1)) _
    ∙ ap (λ (b : Bool). b && has 3 (masks_at avic Place.extended_address_space_sizes).ebx)
    (xor_keeps x.ebx _ (eqb-true _ 0 (every_at not_bit_3 35 all_not_bit_3 j l)))
    ∙ sym (has_and 3 x.ebx _)

-- rows without INVLPGB have the same answer, whatever else stands in that row
pub clear_same : (n : ℕ) (m o : Rows) → required_verdict m ≡ Ok tt → required_verdict o ≡ Ok tt → invlpgb m ≡ false → invlpgb o ≡ false
    → same_from n o m ≡ true
clear_same n m o e f g h =
    let u : rows_verdict o ≡ Err InvlpgbUnavailable = refused o f h in
    let v : rows_verdict m ≡ Err InvlpgbUnavailable = refused m e g in
    answer_same (u ∙ sym v) (ap (λ (w : Verdict). table_for n w o) u ∙ sym (ap (λ (w : Verdict). table_for n w m) v))
  where
    refused : (m : Rows) → required_verdict m ≡ Ok tt → invlpgb m ≡ false → rows_verdict m ≡ Err InvlpgbUnavailable
    refused m p q = unfold rows_verdict invlpgb_verdict in rw (p, q)
