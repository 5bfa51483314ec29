-- The sizes that a guest reads suffice, and are the same on a server that its own rises to.
use Rattle.std.specs.Prelude.{◌≡◌, refl, Bool, ◌&&◌, List}
use Rattle.std.proofs.Common.{sym, ap, ◌∙◌, subst}
use Rattle.std.proofs.Math.Bool.{true, false}
use Prim.Native.Nat.{ℕ, suc, ◌-◌, ◌^◌, ◌≤◌, ◌<◌, min}
use native.Mathlib.Omega.{arith}
use Rattle.std.proofs.Math.Dec.{lit<}
use Rattle.std.specs.Int.Bits.{bit_or}
use Rattle.bits.specs.Choice.{pick}
use Rattle.bits.specs.ChoiceLaws.{pick_true, impossible}
use Rattle.bits.specs.Bits.{bit, has}
use Rattle.bits.specs.BitsLaws.{bit_has, has_bit, within_or, or_within_left}
use Rattle.bits.proofs.BitsLaws.{has_mono}
use Rattle.bits.specs.WidthLaws.{or_fits}
use Rattle.x86defs.specs.declared.CpuidResult.{CpuidResult}
use Rattle.masking.specs.Place
use Rattle.table.specs.declared.Choices.{Choices}
use Rattle.table.specs.declared.CpuidResults.{CpuidResults}
use Rattle.table.specs.Rows.{Rows}
use Rattle.table.specs.Table.{row_in, rows_of_table}
use Rattle.checks.specs.ExtendedState.{xfem, xss, combined_mask, save_area}
use Rattle.checks.specs.ExtendedStateLaws.{area_mono}
use Rattle.finish.specs.Kinds.{Kind, Kinds, TableAtLeast, Registers, kinds, kinds_at}
use Rattle.finish.specs.Kinds.Kind.{other}
use Rattle.finish.specs.RuleKinds.{kinds_at_lem, component_kinds}
use Rattle.build.specs.Build.{answer}
use Rattle.guest_state.specs.Compact.{compact_below, compact_size}
use Rattle.guest_state.specs.CompactLaws.{compact_starts}
use Rattle.guest_state.specs.State.{compacts, save_register, compact_register}
use Rattle.guest.specs.declared.Processor.{Processor}
use Rattle.guest.specs.Guest.{guest_table}
use Rattle.guest.specs.GuestPages.{guest_pages}
use Rattle.guest.proofs.GuestPagesLaws.{guest_verdict, given_guest}
use Rattle.guest.proofs.SeenExactlyProof.{seen_exactly}
use Rattle.guest_rise.specs.GuestRise.{compacts_in, GuestTableRises, GuestOutcome}
use Rattle.guest_rise.specs.GuestRise.GuestOutcome.{given, too_large}
use Rattle.guest_rise.proofs.GuestExactly.{guest_exactly}
use Rattle.guest_rise.specs.StateExactly.{Allowed}
use Rattle.guest_rise.proofs.StateExactlyProof.{given_allowed}
use Rattle.guest_rise.proofs.GuestRiseProof.{guest_rise}
use Rattle.guest_life.specs.Bits32.{set_below}
use Rattle.guest_life.specs.Sound.{Sound, built_sound}
use Rattle.guest_life.specs.SaveAreas.{subleaf, StandardForm, CompactedForm, SaveAreas, SameAreas, AreasStay}
use Rattle.guest_life.specs.AreaLaws.{area_least, area_holds, compact_rises, start_of, start_after, start_aligned, ends}

-- ---- a table and a state that it gives

module _ (t : CpuidResults) (v : Processor) (p : Sound t) (allows : Allowed (rows_of_table t) v.xcr0 v.xss) where
  abbrev T : Rows
  T = rows_of_table t

  abbrev G : CpuidResults
  G = guest_table t v

  abbrev pub x : ℕ
  x = bit_or v.xcr0 v.xss

  there0 : (row_in t (Place.extended_state 0)).present ≡ true
  there0 = p.supplied.required (Place.extended_state 0) (lit< tt) refl

  there1 : (row_in t (Place.extended_state 1)).present ≡ true
  there1 = p.supplied.required (Place.extended_state 1) (lit< tt) refl

  -- the mask has no bit from 32 up
  mask_fits : combined_mask T < 2 ^ 32
  unfolding combined_mask xfem xss
  mask_fits =
      or_fits (p.plain.fits (Place.extended_state 0) (lit< tt)).eax
      (go (has 1 (T (Place.extended_state 1)).result.eax && has 3 (T (Place.extended_state 1)).result.eax))
    where
      go : (b : Bool) → pick b (T (Place.extended_state 1)).result.ecx 0 < 2 ^ 32
      go true = (p.plain.fits (Place.extended_state 1) (lit< tt)).ecx
      go false = lit< tt

  pub in_mask_lem : (k : ℕ) → bit k x ≡ 1 → has k (combined_mask T) ≡ true
  unfolding combined_mask
  in_mask_lem k e = has_mono k (within_or allows.user allows.supervisor) (bit_has k x e)

  user_in : (k : ℕ) → bit k v.xcr0 ≡ 1 → bit k x ≡ 1
  user_in k e = has_bit k x (has_mono k (or_within_left v.xcr0 v.xss) (bit_has k v.xcr0 e))

  pub below_32 : (k : ℕ) → bit k x ≡ 1 → k < 32
  below_32 k e = set_below (combined_mask T) k mask_fits (has_bit k _ (in_mask_lem k e))

  -- component k of the view is the table's
  pub component_seen : (k : ℕ) → 2 ≤ k → k < 64 → subleaf G k ≡ (T (Place.extended_state k)).result
  component_seen k l h =
      (seen_exactly t v).elsewhere (Place.extended_state k) (omega arith)
      (λ e. omega arith) (λ e. omega arith) (λ e. omega arith) (λ e. omega arith) (λ e. omega arith)

  component_there : (k : ℕ) → 2 ≤ k → bit k x ≡ 1 → (row_in G (Place.extended_state k)).present ≡ true
  component_there k l e =
      let h = below_32 k e in
      let u : k < 64 = omega arith in
      (seen_exactly t v).present (Place.extended_state k) ∙ p.supplied.components k l u (in_mask_lem k e)

  -- D.0.EBX is the area over XCR0, which is within that over XFEM
  area_most : save_area T v.xcr0 ≤ (T (Place.extended_state 0)).result.ecx
  area_most = rw p.area (area_mono T T 64 allows.user (λ k l h e. refl))

  pub standard_size : (subleaf G 0).ebx ≡ save_area T v.xcr0
  unfolding save_register
  standard_size =
      ((seen_exactly t v).state0 there0).ebx
      ∙ fits (save_area T v.xcr0) (omega (arith, area_most, (p.plain.fits (Place.extended_state 0) (lit< tt)).ecx))
    where
      fits : (n : ℕ) → n < 2 ^ 32 → min n (2 ^ 32 - 1) ≡ n
      fits n l = omega arith

  pub standard_form : StandardForm G v.xcr0
  standard_form = record {
    header = rw standard_size (area_least T v.xcr0 64);
    there = λ k l e. component_there k l (user_in k e);
    inside = λ k l e.
        let h = below_32 k (user_in k e) in
        let u : k < 64 = omega arith in
        let a = area_holds T v.xcr0 k 64 l u (bit_has k v.xcr0 e) in
        rw (standard_size, component_seen k l u) (omega (arith, a));
    most = rw (standard_size, ((seen_exactly t v).state0 there0).ecx) area_most;
  }

  -- D.1.EBX is the compacted size
  module _ (c : compacts_in G ≡ true) where
    compact_size_lem : (subleaf G 1).ebx ≡ compact_size T x
    unfolding compact_register
    compact_size_lem = ((seen_exactly t v).state1 there1).ebx ∙ pick_true _ _ (ap compacts (sym ((seen_exactly t v).state1 there1).eax) ∙ c)

    pub compacted_form : CompactedForm G x
    compacted_form = record {
      start = start_of T x;
      there = component_there;
      header = λ k l e. let a = compact_rises T x 2 k l in let b = start_after T x k in omega (arith, a, b, first);
      aligned = λ k l e f.
          let h = below_32 k e in
          let u : k < 64 = omega arith in
          start_aligned T x k (ap (λ (r : CpuidResult). has 1 r.ecx) (sym (component_seen k l u)) ∙ bit_has 1 _ f);
      apart = λ j k l u d e.
          let h = below_32 k e in
          let w : j < 64 = omega arith in
          let a = compact_rises T x (suc j) k u in
          let b = start_after T x k in
          rw (component_seen j l w) (omega (arith, ends T x j l (bit_has j x d), a, b));
      inside = λ k l e.
          let h = below_32 k e in
          let u : k < 64 = omega arith in
          let a = compact_rises T x (suc k) 64 (omega arith) in
          rw (compact_size_lem, component_seen k l u) (omega (arith, ends T x k l (bit_has k x e), a));
    }
      where
        first : compact_below T x 2 ≡ 576
        first = sym (compact_starts T x)

-- ---- on a server that is at least the first

pub component_same : (g h : CpuidResults) → GuestTableRises g h → (k : ℕ) → 2 ≤ k → k < 64 → (row_in g (Place.extended_state k)).present ≡ true
    → subleaf g k ≡ subleaf h k
component_same g h r k l u e =
    let q : Registers TableAtLeast (kinds other other other other) (subleaf g k) (subleaf h k) =
    subst (λ (w : Kinds). Registers TableAtLeast w (subleaf g k) (subleaf h k)) (component_kinds k l u)
    (r.registers (Place.extended_state k) (omega arith) e (λ z. absurd (omega arith))) in
    λ j. record { eax = q.eax j; ebx = q.ebx j; ecx = q.ecx j; edx = q.edx j }

pub ebx_same : (i : ℕ) (r s : CpuidResult) → (kinds_at i).ebx ≡ other → Registers TableAtLeast (kinds_at i) r s → r.ebx ≡ s.ebx
ebx_same i r s e q = subst (λ (k : Kind). TableAtLeast k r.ebx s.ebx) e q.ebx
