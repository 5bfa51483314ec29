-- The sizes that a guest reads suffice, and are the same on a server that its own rises to.
use Rattle.std.specs.Prelude.{◌≡◌, refl, Bool, ◌&&◌, List, Ok}
use Rattle.std.proofs.Common.{sym, ap, ◌∙◌, subst}
use Rattle.std.proofs.Math.Bool.{true, false}
use Prim.Native.Nat.{ℕ, suc, ◌-◌, ◌^◌, ◌≤◌, ◌<◌, min}
use native.Mathlib.Omega.{arith}
use Rattle.std.proofs.Math.Dec.{lit<}
use Rattle.std.specs.Int.Bits.{bit_or}
use Rattle.bits.specs.Choice.{pick}
use Rattle.bits.specs.ChoiceLaws.{pick_true, impossible}
use Rattle.bits.specs.Bits.{bit, has}
use Rattle.bits.specs.BitsLaws.{bit_has, has_bit, within_or, or_within_left}
use Rattle.bits.proofs.BitsLaws.{has_mono}
use Rattle.bits.specs.WidthLaws.{or_fits}
use Rattle.x86defs.specs.declared.CpuidResult.{CpuidResult}
use Rattle.masking.specs.Place
use Rattle.table.specs.declared.Choices.{Choices}
use Rattle.table.specs.declared.CpuidResults.{CpuidResults}
use Rattle.table.specs.Rows.{Rows}
use Rattle.table.specs.Table.{row_in, rows_of_table}
use Rattle.checks.specs.ExtendedState.{xfem, xss, combined_mask, save_area}
use Rattle.checks.specs.ExtendedStateLaws.{area_mono}
use Rattle.finish.specs.Kinds.{Kind, Kinds, TableAtLeast, Registers, kinds, kinds_at}
use Rattle.finish.specs.Kinds.Kind.{other}
use Rattle.finish.specs.RuleKinds.{kinds_at_lem, component_kinds}
use Rattle.build.specs.Build.{answer}
use Rattle.guest_state.specs.Compact.{compact_below, compact_size}
use Rattle.guest_state.specs.CompactLaws.{compact_starts}
use Rattle.guest_state.specs.State.{compacts, save_register, compact_register}
use Rattle.guest.specs.declared.Processor.{Processor}
use Rattle.guest.specs.Guest.{guest_table}
use Rattle.guest.specs.GuestPages.{guest_pages}
use Rattle.guest.proofs.GuestPagesLaws.{guest_verdict, given_guest}
use Rattle.guest.proofs.SeenExactlyProof.{seen_exactly}
use Rattle.guest_rise.specs.GuestRise.{compacts_in, GuestTableRises, GuestOutcome}
use Rattle.guest_rise.specs.GuestRise.GuestOutcome.{given, too_large}
use Rattle.guest_rise.proofs.GuestExactly.{guest_exactly}
use Rattle.guest_rise.specs.StateExactly.{Allowed}
use Rattle.guest_rise.proofs.StateExactlyProof.{given_allowed}
use Rattle.guest_rise.proofs.GuestRiseProof.{guest_rise}
use Rattle.guest_life.specs.Bits32.{set_below}
use Rattle.guest_life.specs.Sound.{Sound, built_sound}
use Rattle.guest_life.specs.SaveAreas.{subleaf, StandardForm, CompactedForm, SaveAreas, SameAreas, AreasStay}
use Rattle.guest_life.specs.AreaLaws.{area_least, area_holds, compact_rises, start_of, start_after, start_aligned, ends}
use Rattle.guest_life.specs.SaveAreasProof.{below_32, compacted_form, component_same, ebx_same, in_mask_lem, standard_form, x}

-- ---- page sets

module _ (chosen : Choices) (s : List ℕ) (v : Processor) (g : (guest_pages chosen s v).verdict ≡ Ok tt) where
  pub accepted_of_lem : (answer chosen s).verdict ≡ Ok tt
  accepted_of_lem = ((guest_exactly chosen s v).given.0 g).0

  pub allowed_of : Allowed (rows_of_table (answer chosen s).table) v.xcr0 v.xss
  allowed_of = given_allowed (rows_of_table (answer chosen s).table) v.xcr0 v.xss (sym (guest_verdict chosen s v accepted_of_lem) ∙ g)

  areas_of_lem : StandardForm (guest_pages chosen s v).table v.xcr0
      × (compacts_in (guest_pages chosen s v).table ≡ true → CompactedForm (guest_pages chosen s v).table (bit_or v.xcr0 v.xss))
  areas_of_lem =
      let p = built_sound chosen s accepted_of_lem in
      rw (given_guest chosen s v accepted_of_lem g)
      (standard_form (answer chosen s).table v p allowed_of, compacted_form (answer chosen s).table v p allowed_of)

pub save_areas : SaveAreas
save_areas = areas_of_lem

pub areas_same : (g h : CpuidResults) (x : ℕ) → GuestTableRises g h
    → ((k : ℕ) → 2 ≤ k → bit k x ≡ 1 → (k < 64) × ((row_in g (Place.extended_state k)).present ≡ true))
    → (row_in g (Place.extended_state 0)).present ≡ true → (row_in g (Place.extended_state 1)).present ≡ true → SameAreas g h x
areas_same g h x r f z o = record {
  components = λ k l e. component_same g h r k l (f k l e).0 (f k l e).1;
  standard =
      ebx_same (Place.extended_state 0) _ _ (ap (λ (k : Kinds). k.ebx) (kinds_at_lem (Place.extended_state 0) (lit< tt)))
      (r.registers (Place.extended_state 0) (lit< tt) z (λ q. absurd (omega arith)));
  compacted = λ c.
      ebx_same (Place.extended_state 1) _ _ (ap (λ (k : Kinds). k.ebx) (kinds_at_lem (Place.extended_state 1) (lit< tt)))
      (r.registers (Place.extended_state 1) (lit< tt) o (λ q. c));
}

pub areas_stay : AreasStay
areas_stay chosen a b v rises e g h = go (guest_rise chosen a b v rises e g)
  where
    p : Sound (answer chosen a).table
    p = built_sound chosen a rises.accepted

    there : (i : ℕ) → (row_in (answer chosen a).table i).present ≡ true → (row_in (guest_pages chosen a v).table i).present ≡ true
    there i q = ap (λ (w : CpuidResults). (row_in w i).present) (given_guest chosen a v rises.accepted g) ∙ q

    go : GuestOutcome (guest_pages chosen a v).table (guest_pages chosen b v)
        → SameAreas (guest_pages chosen a v).table (guest_pages chosen b v).table (bit_or v.xcr0 v.xss)
    go (too_large c f) = impossible (cc)
    go (given f r) =
        areas_same _ _ _ r
        (λ k l d.
        let w = allowed_of chosen a v g in
        let n = below_32 (answer chosen a).table v p w k d in
        let u : k < 64 = omega arith in
        (u, there (Place.extended_state k) (p.supplied.components k l u (in_mask_lem (answer chosen a).table v p w k d))))
        (there (Place.extended_state 0) (p.supplied.required (Place.extended_state 0) (lit< tt) refl))
        (there (Place.extended_state 1) (p.supplied.required (Place.extended_state 1) (lit< tt) refl))
