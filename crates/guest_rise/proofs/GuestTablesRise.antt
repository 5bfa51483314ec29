-- The rise of guest answers, of any two tables that rise and of which the first has the rows that its masks name.
use Rattle.std.specs.Prelude.{◌≡◌, Bool, ◌⊎◌, Ok}
use Rattle.std.proofs.Math.Path.{refl, sym, ap}
use Rattle.std.proofs.Common.{◌∙◌, subst, subst₂, inl, inr, ⊎_elim, arith, lit<}
use Rattle.std.proofs.Math.Bool.{true, false}
use Prim.Native.Nat.{ℕ, ◌+◌, ◌-◌, ◌^◌, ◌≤◌, ◌<◌, min}
use Rattle.std.specs.Int.Bits.{bit_or}
use Rattle.bits.specs.ChoiceLaws.{pick_true}
use Rattle.bits.specs.Bits.{has, Within}
use Rattle.bits.specs.BitsLaws.{within_or, within_refl, within_trans, or_within_left}
use Rattle.bits.proofs.BitsLaws.{has_mono}
use Rattle.x86defs.specs.declared.CpuidResult.{CpuidResult}
use Rattle.masking.specs.Place
use Rattle.table.specs.declared.CpuidResults.{CpuidResults}
use Rattle.table.specs.Rows.{Rows}
use Rattle.table.specs.Table.{row_in, rows_of_table}
use Rattle.checks.specs.ExtendedState.{xfem, combined_mask, save_area}
use Rattle.checks.specs.ExtendedStateLaws.{area_mono, xss_mono}
use Rattle.finish.specs.Kinds.{Kinds, TableAtLeast, Registers, kinds}
use Rattle.finish.specs.Kinds.Kind.{other}
use Rattle.finish.specs.RuleKinds.{component_kinds}
use Rattle.rise.specs.Rise.{Further, TableRises}
use Rattle.guest_state.specs.Compact.{compact_size}
use Rattle.guest_state.proofs.CompactLaws.{compact_same}
use Rattle.guest_state.specs.State.{compacts, save_register, compact_register, state_verdict}
use Rattle.guest.specs.declared.Processor.{Processor}
use Rattle.guest.proofs.SeenLaws.{seen_there}
use Rattle.guest.specs.Guest.{guest_table, table_given, guest_answer}
use Rattle.guest_rise.specs.GuestRise.{compacts_in, RowRises, GuestTableRises, GuestOutcome}
use Rattle.guest_rise.specs.GuestRise.GuestOutcome.{given, too_large}
use Rattle.guest_rise.specs.StateExactly.{Allowed, SizeFault, StateAnswers}
use Rattle.guest_rise.specs.StateExactlyProof.{test_either, compacts_mono}
use Rattle.guest_rise.proofs.StateExactlyProof.{state_answers, given_fits}
use Rattle.guest_rise.specs.StateExactly.StateAnswers.{beyond, large}
use Rattle.guest_rise.specs.StateExactly.StateAnswers.{given as accepted}
use Rattle.guest_rise.specs.BuiltState.{Supplied}
use Rattle.guest_rise.specs.SeenRises.{state0_eax, state1_eax, state1_ecx, state1_edx, seen_rises}
use Rattle.table.specs.Verdict.{Verdict}

module _ (t u : CpuidResults) (v : Processor) (rises : TableRises t u) (supplied : Supplied t) (allows : Allowed (rows_of_table t) v.xcr0 v.xss) where
  abbrev T : Rows
  T = rows_of_table t

  abbrev U : Rows
  U = rows_of_table u

  abbrev x : ℕ
  x = bit_or v.xcr0 v.xss

  -- ---- D.0 and D.1

  there0 : (row_in t (Place.extended_state 0)).present ≡ true
  there0 = supplied.required (Place.extended_state 0) (lit< tt) refl

  there1 : (row_in t (Place.extended_state 1)).present ≡ true
  there1 = supplied.required (Place.extended_state 1) (lit< tt) refl

  state0 : RowRises (Place.extended_state 0) (T (Place.extended_state 0)).result (U (Place.extended_state 0)).result
  state0 = rises.registers (Place.extended_state 0) (lit< tt) there0

  state1 : RowRises (Place.extended_state 1) (T (Place.extended_state 1)).result (U (Place.extended_state 1)).result
  state1 = rises.registers (Place.extended_state 1) (lit< tt) there1

  -- never 13
  allows_too : Allowed U v.xcr0 v.xss
  unfolding xfem
  allows_too = record {
    x87 = allows.x87;
    user = within_trans allows.user (state0_eax _ _ state0);
    supervisor = within_trans allows.supervisor (xss_mono T U (state1_eax _ _ state1) (state1_ecx _ _ state1));
  }

  -- ---- the two sizes

  -- the subleaves of T's masks are the same in U
  same_row : (k : ℕ) → 2 ≤ k → k < 64 → has k (combined_mask T) ≡ true → (T (Place.extended_state k)).result ≡ (U (Place.extended_state k)).result
  same_row k l h p =
      let q : Registers TableAtLeast (kinds other other other other) (T (Place.extended_state k)).result (U (Place.extended_state k)).result =
      subst (λ (w : Kinds). Registers TableAtLeast w (T (Place.extended_state k)).result (U (Place.extended_state k)).result)
      (component_kinds k l h)
      (rises.registers (Place.extended_state k) (omega arith) (supplied.components k l h p)) in
      λ j. record { eax = q.eax j; ebx = q.ebx j; ecx = q.ecx j; edx = q.edx j }

  in_masks : (k : ℕ) → has k x ≡ true → has k (combined_mask T) ≡ true
  unfolding combined_mask
  in_masks k = has_mono k (within_or allows.user allows.supervisor)

  in_xcr0 : (k : ℕ) → has k v.xcr0 ≡ true → has k (combined_mask T) ≡ true
  in_xcr0 k e = in_masks k (has_mono k (or_within_left v.xcr0 v.xss) e)

  -- D.0.EBX
  save_same : save_register T v.xcr0 ≡ save_register U v.xcr0
  unfolding save_register
  save_same =
      let up : save_area T v.xcr0 ≤ save_area U v.xcr0 =
      area_mono T U 64 (within_refl v.xcr0) (λ k l h e. ap (λ (r : CpuidResult). r.eax + r.ebx) (same_row k l h (in_xcr0 k e))) in
      let down : save_area U v.xcr0 ≤ save_area T v.xcr0 =
      area_mono U T 64 (within_refl v.xcr0) (λ k l h e. sym (ap (λ (r : CpuidResult). r.eax + r.ebx) (same_row k l h (in_xcr0 k e)))) in
      let e : save_area T v.xcr0 ≡ save_area U v.xcr0 = omega (arith, up, down) in
      ap (λ (n : ℕ). min n (2 ^ 32 - 1)) e

  compact_size_same : compact_size T x ≡ compact_size U x
  compact_size_same = compact_same T U x 64 (λ k l h e. same_row k l h (in_masks k e))

  -- D.1.EBX, where T compacts
  compact_register_same : compacts_in t ≡ true → compact_register T v.xcr0 v.xss ≡ compact_register U v.xcr0 v.xss
  unfolding compact_register
  compact_register_same e = pick_true _ _ e ∙ compact_size_same ∙ sym (pick_true _ _ (compacts_mono (state1_eax _ _ state1) e))

  -- ---- the guest's tables

  -- D.1 as seen, and as it was but for EBX
  seen1 : (w : CpuidResults) → (row_in w (Place.extended_state 1)).present ≡ true → (f : CpuidResult → ℕ)
      → ((r : CpuidResult) (n : ℕ) → f (record { eax = r.eax; ebx = n; ecx = r.ecx; edx = r.edx }) ≡ f r)
      → f (row_in (guest_table w v) (Place.extended_state 1)).result ≡ f (row_in w (Place.extended_state 1)).result
  seen1 w p f same = ap f (seen_there w v (Place.extended_state 1) (lit< tt) p) ∙ same _ _

  in_b_lem : (row_in u (Place.extended_state 1)).present ≡ true
  in_b_lem = rises.rows (Place.extended_state 1) (lit< tt) there1

  seen_compacts : compacts_in (guest_table t v) ≡ compacts_in t
  seen_compacts = ap compacts (seen1 t there1 (λ r. r.eax) (λ r n. refl))

  further : (i : ℕ) → Further t u i → Further (guest_table t v) (guest_table u v) i
  further i f = record { subleaf = f.subleaf; place = f.place; from = f.from; below = f.below; in_b = f.in_b; not_in_a = f.not_in_a }

  guest_tables : GuestTableRises (guest_table t v) (guest_table u v)
  guest_tables = record {
    rows = rises.rows;
    registers = λ i l p f.
        subst₂ (RowRises i) (sym (seen_there t v i l p)) (sym (seen_there u v i l (rises.rows i l p)))
        (seen_rises v i (row_in t i).result (row_in u i).result save_same (λ e. compact_register_same (sym seen_compacts ∙ f e))
        (rises.registers i l p));
    xsave_eax = subst₂ Within (sym (seen1 t there1 (λ r. r.eax) (λ r n. refl))) (sym (seen1 u in_b_lem (λ r. r.eax) (λ r n. refl))) (state1_eax _ _ state1);
    xsave_ecx = subst₂ Within (sym (seen1 t there1 (λ r. r.ecx) (λ r n. refl))) (sym (seen1 u in_b_lem (λ r. r.ecx) (λ r n. refl))) (state1_ecx _ _ state1);
    xsave_edx = seen1 t there1 (λ r. r.edx) (λ r n. refl) ∙ state1_edx _ _ state1 ∙ sym (seen1 u in_b_lem (λ r. r.edx) (λ r n. refl));
    others = λ i l p. ⊎_elim (λ q. inl q) (λ q. inr (further i q)) (rises.others i l p);
    mask = rises.mask;
  }

  -- ---- the answers

  given_table : (w : CpuidResults) → state_verdict (rows_of_table w) v.xcr0 v.xss ≡ Ok tt → (guest_answer w v).table ≡ guest_table w v
  unfolding guest_answer
  given_table w e = ap (λ (q : Verdict). table_given q w v) e

  module _ (isGiven : state_verdict T v.xcr0 v.xss ≡ Ok tt) where
    -- a size that is too large for U is too large for T, if T compacts
    no_fault : compacts_in t ≡ true → SizeFault U v.xcr0 v.xss → ⊥
    no_fault e f =
        given_fits T v.xcr0 v.xss isGiven (record { compacted = test_either _ e; large = omega (arith, f.large, compact_size_same) })

    pub table_outcome : GuestOutcome (guest_answer t v).table (guest_answer u v)
    unfolding guest_answer
    table_outcome = go (compacts_in t) refl (state_answers U v.xcr0 v.xss)
      where
        go : (b : Bool) → compacts_in t ≡ b → StateAnswers U v.xcr0 v.xss (state_verdict U v.xcr0 v.xss)
            → GuestOutcome (guest_answer t v).table (guest_answer u v)
        go b c (beyond f e) = absurd (f allows_too)
        go true c (large h f e) = absurd (no_fault c f)
        go false c (large h f e) = too_large (ap compacts_in (given_table t isGiven) ∙ seen_compacts ∙ c) e
        go b c (accepted h f e) = given e (subst₂ GuestTableRises (sym (given_table t isGiven)) (sym (given_table u e)) guest_tables)

    -- where T compacts: given, and all of what tables compare
    pub table_compacts : compacts_in t ≡ true
        → ((guest_answer u v).verdict ≡ Ok tt) × TableRises (guest_answer t v).table (guest_answer u v).table
    unfolding guest_answer
    table_compacts c = go (state_answers U v.xcr0 v.xss)
      where
        whole : TableRises (guest_table t v) (guest_table u v)
        whole = record {
          rows = guest_tables.rows;
          registers = λ i l p. guest_tables.registers i l p (λ _. seen_compacts ∙ c);
          others = guest_tables.others;
          mask = guest_tables.mask;
        }

        go : StateAnswers U v.xcr0 v.xss (state_verdict U v.xcr0 v.xss)
            → ((guest_answer u v).verdict ≡ Ok tt) × TableRises (guest_answer t v).table (guest_answer u v).table
        go (beyond f e) = absurd (f allows_too)
        go (large h f e) = absurd (no_fault c f)
        go (accepted h f e) = (e, subst₂ TableRises (sym (given_table t isGiven)) (sym (given_table u e)) whole)
