-- Equal views are those of tables that agree but where views replace, and the other way round.
use Rattle.std.specs.Prelude.{◌≡◌, refl, Bool, true, false, ◌&&◌, ◌≢◌, ℕ, ◌+◌, ◌-◌, ◌^◌, ◌≤◌, ◌<◌, eqb, ltb, Ok}
use Rattle.std.proofs.Math.Path.{sym, ap, ap₂}
use Rattle.std.proofs.Common.{◌∙◌, arith, lit<, eqb-true, ltb-true, ltb-false}
use Rattle.std.specs.Int.Bits.{bit_or, bit_and}
use Rattle.std.proofs.lemmas.Bool.{eqb-false}
use Rattle.bits.specs.Choice.{pick}
use Rattle.bits.specs.Lists.{one}
use Rattle.bits.specs.ListsLaws.{sum_ext}
use Rattle.bits.specs.Bits.{bit, has, clear}
use Rattle.bits.specs.WidthLaws.{and_fits, or_fits}
use Rattle.x86defs.specs.declared.CpuidResult.{CpuidResult}
use Rattle.masking.specs.Kept.{places}
use Rattle.masking.specs.Place
use Rattle.table.specs.declared.CpuidResults.{CpuidResults}
use Rattle.table.specs.Rows.{Row, Rows}
use Rattle.table.specs.Table.{count_rows, row_in, rows_of_table}
use Rattle.checks.specs.ExtendedState.{xfem, xss, combined_mask}
use Rattle.build.specs.Build.{answer}
use Rattle.guest_state.specs.State.{state_verdict}
use Rattle.guest.specs.declared.Processor.{Processor}
use Rattle.guest.specs.Guest.{number_seen, osxsave_seen, guest_table}
use Rattle.guest.proofs.GuestPagesLaws.{guest_verdict, given_guest}
use Rattle.guest.proofs.SeenLaws.{seen_there}
use Rattle.guest.specs.SeenExactly.{NumberBits, OsxsaveBit, VersionSeen, LevelSeen, SizeSeen}
use Rattle.guest.proofs.SeenExactlyProof.{seen_exactly}
use Rattle.guest_rise.proofs.GuestExactly.{guest_exactly}
use Rattle.guest_life.specs.Bits32.{bits_32}
use Rattle.guest_life.specs.StatesAgree.{StatesAgree, save_agrees, compact_agrees, verdict_agrees}
use Rattle.guest_life.specs.Sound.{Sound, built_sound}
use Rattle.guest_life.specs.ViewsTell.{VersionAgrees, AgreesButEbx, TablesAgree, SameView, ViewsTell, AgreeGives}
use Rattle.guest_life.specs.ViewsTellProof.{number_agrees, number_fits, osxsave_agrees, osxsave_fits}

-- ---- two tables

module _ (t u : CpuidResults) (v : Processor) (p : Sound t) (q : Sound u) where
  abbrev T : Rows
  T = rows_of_table t

  abbrev U : Rows
  U = rows_of_table u

  abbrev G : CpuidResults
  G = guest_table t v

  abbrev H : CpuidResults
  H = guest_table u v

  -- ---- views that are equal

  module _ (same : SameView G H) where
    at : (i : ℕ) → i < places → (row_in G i).result ≡ (row_in H i).result
    at i l = ap (λ (r : Row). r.result) (same i l)

    version_told : VersionAgrees (T Place.version_and_features).result (U Place.version_and_features).result
    version_told =
        let a = (seen_exactly t v).version (p.supplied.required Place.version_and_features (lit< tt) refl) in
        let b = (seen_exactly u v).version (q.supplied.required Place.version_and_features (lit< tt) refl) in
        let e = at Place.version_and_features (lit< tt) in
        record {
          eax = sym a.eax ∙ ap (λ (r : CpuidResult). r.eax) e ∙ b.eax;
          ebx = λ k l. sym (a.ebx.others k l) ∙ ap (λ (r : CpuidResult). bit k r.ebx) e ∙ b.ebx.others k l;
          ecx = λ k l n. sym (a.ecx.others k l n) ∙ ap (λ (r : CpuidResult). bit k r.ecx) e ∙ b.ecx.others k l n;
          edx = sym a.edx ∙ ap (λ (r : CpuidResult). r.edx) e ∙ b.edx;
        }

    size_told : {m n : ℕ} {r g s h : CpuidResult} → SizeSeen m r g → SizeSeen n s h → g ≡ h → AgreesButEbx r s
    size_told a b e = record {
      eax = sym a.eax ∙ ap (λ (r : CpuidResult). r.eax) e ∙ b.eax;
      ecx = sym a.ecx ∙ ap (λ (r : CpuidResult). r.ecx) e ∙ b.ecx;
      edx = sym a.edx ∙ ap (λ (r : CpuidResult). r.edx) e ∙ b.edx;
    }

    state0_told : AgreesButEbx (T (Place.extended_state 0)).result (U (Place.extended_state 0)).result
    state0_told =
        size_told ((seen_exactly t v).state0 (p.supplied.required (Place.extended_state 0) (lit< tt) refl))
        ((seen_exactly u v).state0 (q.supplied.required (Place.extended_state 0) (lit< tt) refl)) (at (Place.extended_state 0) (lit< tt))

    state1_told : AgreesButEbx (T (Place.extended_state 1)).result (U (Place.extended_state 1)).result
    state1_told =
        size_told ((seen_exactly t v).state1 (p.supplied.required (Place.extended_state 1) (lit< tt) refl))
        ((seen_exactly u v).state1 (q.supplied.required (Place.extended_state 1) (lit< tt) refl)) (at (Place.extended_state 1) (lit< tt))

    level_told : {r g s h : CpuidResult} → LevelSeen v r g → LevelSeen v s h → g ≡ h → r.edx ≡ 0 → s.edx ≡ 0 → r ≡ s
    level_told a b e x y = λ k. record {
      eax = (sym a.eax ∙ ap (λ (r : CpuidResult). r.eax) e ∙ b.eax) k;
      ebx = (sym a.ebx ∙ ap (λ (r : CpuidResult). r.ebx) e ∙ b.ebx) k;
      ecx = (sym a.ecx ∙ ap (λ (r : CpuidResult). r.ecx) e ∙ b.ecx) k;
      edx = (x ∙ sym y) k;
    }

    threads_told : (T Place.thread_level).result ≡ (U Place.thread_level).result
    threads_told =
        level_told ((seen_exactly t v).threads (p.supplied.required Place.thread_level (lit< tt) refl))
        ((seen_exactly u v).threads (q.supplied.required Place.thread_level (lit< tt) refl)) (at Place.thread_level (lit< tt)) p.threads q.threads

    cores_told : (T Place.core_level).result ≡ (U Place.core_level).result
    cores_told =
        level_told ((seen_exactly t v).cores (p.supplied.required Place.core_level (lit< tt) refl))
        ((seen_exactly u v).cores (q.supplied.required Place.core_level (lit< tt) refl)) (at Place.core_level (lit< tt)) p.cores q.cores

    elsewhere_told : (i : ℕ) → i < places → i ≢ Place.version_and_features → i ≢ Place.extended_state 0 → i ≢ Place.extended_state 1
        → (T i).result ≡ (U i).result
    elsewhere_told i l a d e = go (eqb i Place.thread_level) (eqb i Place.core_level) refl refl
      where
        go : (b c : Bool) → eqb i Place.thread_level ≡ b → eqb i Place.core_level ≡ c → (T i).result ≡ (U i).result
        go true c f g = let z : i ≡ Place.thread_level = eqb-true i Place.thread_level f in rw z threads_told
        go false true f g = let z : i ≡ Place.core_level = eqb-true i Place.core_level g in rw z cores_told
        go false false f g =
            let x : i ≢ Place.thread_level = eqb-false i Place.thread_level f in
            let y : i ≢ Place.core_level = eqb-false i Place.core_level g in
            sym ((seen_exactly t v).elsewhere i l a x y d e) ∙ at i l ∙ (seen_exactly u v).elsewhere i l a x y d e

    present_told : (i : ℕ) → i < places → (T i).present ≡ (U i).present
    present_told i l = ap (λ (r : Row). r.present) (same i l)

    pub views_tell : TablesAgree t u
    unfolding count_rows combined_mask xfem xss
    views_tell = record {
      present = present_told;
      version = version_told;
      state0 = state0_told;
      state1 = state1_told;
      elsewhere = elsewhere_told;
      count =
          p.count
          ∙ sum_ext (λ i. one (T i).present) (λ i. one (U i).present) places (λ i l. ap one (present_told i l))
          ∙ sym q.count;
      mask =
          p.mask
          ∙ ap₂ bit_or state0_told.eax (ap₂ (λ (a c : ℕ). pick (has 1 a && has 3 a) c 0) state1_told.eax state1_told.ecx)
          ∙ sym q.mask;
    }

  -- ---- tables that agree

  module _ (agree : TablesAgree t u) where
    states : (x s : ℕ) → StatesAgree t u x s
    states x s = record {
      xfem = agree.state0.eax;
      eax = agree.state1.eax;
      ecx = agree.state1.ecx;
      components = λ k l h d. agree.elsewhere (Place.extended_state k) (omega arith) (λ e. omega arith) (λ e. omega arith) (λ e. omega arith);
    }

    pub same_verdict_lem : (x s : ℕ) → state_verdict T x s ≡ state_verdict U x s
    same_verdict_lem x s = verdict_agrees t u x s (states x s)

    -- the five rows that are replaced
    seen_version : (row_in G Place.version_and_features).result ≡ (row_in H Place.version_and_features).result
    seen_version =
        let i = p.supplied.required Place.version_and_features (lit< tt) refl in
        let j = q.supplied.required Place.version_and_features (lit< tt) refl in
        let a : VersionSeen v (T Place.version_and_features).result (row_in G Place.version_and_features).result = (seen_exactly t v).version i in
        let b : VersionSeen v (U Place.version_and_features).result (row_in H Place.version_and_features).result = (seen_exactly u v).version j in
        let ga : (row_in G Place.version_and_features).result.ebx < 2 ^ 32 =
        rw (seen_there t v Place.version_and_features (lit< tt) i) (number_fits v.x2apic (T Place.version_and_features).result.ebx) in
        let ha : (row_in H Place.version_and_features).result.ebx < 2 ^ 32 =
        rw (seen_there u v Place.version_and_features (lit< tt) j) (number_fits v.x2apic (U Place.version_and_features).result.ebx) in
        let gc : (row_in G Place.version_and_features).result.ecx < 2 ^ 32 =
        rw (seen_there t v Place.version_and_features (lit< tt) i)
        (osxsave_fits v.osxsave (T Place.version_and_features).result.ecx (p.plain.fits Place.version_and_features (lit< tt)).ecx) in
        let hc : (row_in H Place.version_and_features).result.ecx < 2 ^ 32 =
        rw (seen_there u v Place.version_and_features (lit< tt) j)
        (osxsave_fits v.osxsave (U Place.version_and_features).result.ecx (q.plain.fits Place.version_and_features (lit< tt)).ecx) in
        λ k. record {
          eax = (a.eax ∙ agree.version.eax ∙ sym b.eax) k;
          ebx = number_agrees a.ebx b.ebx ga ha agree.version.ebx k;
          ecx = osxsave_agrees a.ecx b.ecx gc hc agree.version.ecx k;
          edx = (a.edx ∙ agree.version.edx ∙ sym b.edx) k;
        }

    seen_level : {r g s h : CpuidResult} → LevelSeen v r g → LevelSeen v s h → r ≡ s → g ≡ h
    seen_level a b e = λ k. record {
      eax = (a.eax ∙ ap (λ (r : CpuidResult). r.eax) e ∙ sym b.eax) k;
      ebx = (a.ebx ∙ ap (λ (r : CpuidResult). r.ebx) e ∙ sym b.ebx) k;
      ecx = (a.ecx ∙ ap (λ (r : CpuidResult). r.ecx) e ∙ sym b.ecx) k;
      edx = (a.edx ∙ sym b.edx) k;
    }

    seen_size : {m n : ℕ} {r g s h : CpuidResult} → SizeSeen m r g → SizeSeen n s h → m ≡ n → AgreesButEbx r s → g ≡ h
    seen_size a b e f = λ k. record {
      eax = (a.eax ∙ f.eax ∙ sym b.eax) k;
      ebx = (a.ebx ∙ e ∙ sym b.ebx) k;
      ecx = (a.ecx ∙ f.ecx ∙ sym b.ecx) k;
      edx = (a.edx ∙ f.edx ∙ sym b.edx) k;
    }

    seen_threads : (row_in G Place.thread_level).result ≡ (row_in H Place.thread_level).result
    seen_threads =
        seen_level ((seen_exactly t v).threads (p.supplied.required Place.thread_level (lit< tt) refl))
        ((seen_exactly u v).threads (q.supplied.required Place.thread_level (lit< tt) refl))
        (agree.elsewhere Place.thread_level (lit< tt) (λ e. omega arith) (λ e. omega arith) (λ e. omega arith))

    seen_cores : (row_in G Place.core_level).result ≡ (row_in H Place.core_level).result
    seen_cores =
        seen_level ((seen_exactly t v).cores (p.supplied.required Place.core_level (lit< tt) refl))
        ((seen_exactly u v).cores (q.supplied.required Place.core_level (lit< tt) refl))
        (agree.elsewhere Place.core_level (lit< tt) (λ e. omega arith) (λ e. omega arith) (λ e. omega arith))

    seen_state0 : (row_in G (Place.extended_state 0)).result ≡ (row_in H (Place.extended_state 0)).result
    seen_state0 =
        seen_size ((seen_exactly t v).state0 (p.supplied.required (Place.extended_state 0) (lit< tt) refl))
        ((seen_exactly u v).state0 (q.supplied.required (Place.extended_state 0) (lit< tt) refl))
        (save_agrees t u v.xcr0 v.xss (states v.xcr0 v.xss)) agree.state0

    seen_state1 : (row_in G (Place.extended_state 1)).result ≡ (row_in H (Place.extended_state 1)).result
    seen_state1 =
        seen_size ((seen_exactly t v).state1 (p.supplied.required (Place.extended_state 1) (lit< tt) refl))
        ((seen_exactly u v).state1 (q.supplied.required (Place.extended_state 1) (lit< tt) refl))
        (compact_agrees t u v.xcr0 v.xss (states v.xcr0 v.xss)) agree.state1

    seen_at_lem : (i : ℕ) → i < places → (row_in G i).result ≡ (row_in H i).result
    seen_at_lem i l =
        go (eqb i Place.version_and_features) (eqb i Place.thread_level) (eqb i Place.core_level) (eqb i (Place.extended_state 0)) (eqb i (Place.extended_state 1))
        refl refl refl refl refl
      where
        go : (a b c d e : Bool) → eqb i Place.version_and_features ≡ a → eqb i Place.thread_level ≡ b → eqb i Place.core_level ≡ c
            → eqb i (Place.extended_state 0) ≡ d → eqb i (Place.extended_state 1) ≡ e → (row_in G i).result ≡ (row_in H i).result
        go true b c d e f g h j k = let z : i ≡ Place.version_and_features = eqb-true i Place.version_and_features f in rw z seen_version
        go false true c d e f g h j k = let z : i ≡ Place.thread_level = eqb-true i Place.thread_level g in rw z seen_threads
        go false false true d e f g h j k = let z : i ≡ Place.core_level = eqb-true i Place.core_level h in rw z seen_cores
        go false false false true e f g h j k = let z : i ≡ Place.extended_state 0 = eqb-true i (Place.extended_state 0) j in rw z seen_state0
        go false false false false true f g h j k = let z : i ≡ Place.extended_state 1 = eqb-true i (Place.extended_state 1) k in rw z seen_state1
        go false false false false false f g h j k =
            let a : i ≢ Place.version_and_features = eqb-false i Place.version_and_features f in
            let b : i ≢ Place.thread_level = eqb-false i Place.thread_level g in
            let c : i ≢ Place.core_level = eqb-false i Place.core_level h in
            let d : i ≢ Place.extended_state 0 = eqb-false i (Place.extended_state 0) j in
            let e : i ≢ Place.extended_state 1 = eqb-false i (Place.extended_state 1) k in
            (seen_exactly t v).elsewhere i l a b c d e ∙ agree.elsewhere i l a d e ∙ sym ((seen_exactly u v).elsewhere i l a b c d e)

    pub agree_seen : SameView G H
    agree_seen i l = λ k. record { present = agree.present i l k; result = seen_at_lem i l k }

-- ---- page sets

pub views_tell_tables : ViewsTell
views_tell_tables chosen other a b v e f =
    let x : (answer chosen a).verdict ≡ (Ok tt) = ((guest_exactly chosen a v).given.0 e).0 in
    let y : (answer other b).verdict ≡ (Ok tt) = ((guest_exactly other b v).given.0 f).0 in
    let p = built_sound chosen a x in
    let q = built_sound other b y in
    let g = given_guest chosen a v x e in
    let h = given_guest other b v y f in (
      λ same. views_tell (answer chosen a).table (answer other b).table v p q
          (λ i l. sym (ap (λ (w : CpuidResults). row_in w i) g) ∙ same i l ∙ ap (λ (w : CpuidResults). row_in w i) h),
      λ agree i l. ap (λ (w : CpuidResults). row_in w i) g
          ∙ agree_seen (answer chosen a).table (answer other b).table v p q agree i l
          ∙ sym (ap (λ (w : CpuidResults). row_in w i) h),
    )

pub agree_gives : AgreeGives
agree_gives chosen other a b v x y agree =
    guest_verdict chosen a v x
    ∙ same_verdict_lem (answer chosen a).table (answer other b).table v (built_sound chosen a x) (built_sound other b y) agree v.xcr0 v.xss
    ∙ sym (guest_verdict other b v y)
