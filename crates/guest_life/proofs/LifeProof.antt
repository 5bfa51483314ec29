-- A life's steps together: along a life tables rise from what carrying the first one gives, and views as tables do.
use Rattle.std.specs.Prelude.{◌≡◌, Bool, ◌&&◌, not, List, ◌≢◌, ℕ, ◌-◌, ◌^◌, ◌≤◌, ◌<◌, eqb, ltb, length, None, Ok, Option, Some}
use Rattle.std.proofs.Math.Path.{refl, sym, ap}
use Rattle.std.proofs.Common.{◌∙◌, subst, le_of_eq, arith, lit<}
use Rattle.std.proofs.Math.Bool.{true, false}
use Rattle.std.specs.Int.Bits.{bit_or}
use Rattle.std.proofs.Math.ListN.{get_or-eq_default}
use borrow.Author.Tests.{eqb-true, eqb-false, ne_eqb, ltb-true, ltb-false}
use Rattle.bits.specs.Choice.{pick}
use Rattle.bits.specs.ChoiceLaws.{never_both, pick_true}
use Rattle.bits.specs.Search.{every}
use Rattle.bits.specs.SearchLaws.{every_at}
use Rattle.bits.specs.Bits.{bit, has, mask_of, Within, clear, clear_unless}
use Rattle.bits.specs.BitsLaws.{bit_lt, bit_and_lem, zero_bit, has_bit}
use Rattle.bits.specs.ListsLaws.{length_tabulate}
use Rattle.x86defs.specs.declared.CpuidFunction.{CpuidFunction}
use Rattle.x86defs.specs.declared.CpuidResult.{CpuidResult}
use Rattle.masking.specs.Kept.{places}
use Rattle.masking.specs.Place
use Rattle.table.specs.declared.CpuidResults.{CpuidResults}
use Rattle.table.specs.declared.edition.EditionBits.{EditionBits}
use Rattle.table.specs.Edition.{joined_from, bits_between, later_bits}
use Rattle.table.specs.EditionLaws.{Inside, inside_itself, between_later}
use Rattle.table.specs.Rows.{Row, row}
use Rattle.table.specs.Table.{row_in, rows_of_table}
use Rattle.finish.specs.Kinds.{Kind, TableAtLeast, Registers, kinds_at}
use Rattle.finish.specs.Kinds.Kind.{feature, feature_but28, area, freed, other}
use Rattle.memory.specs.Memory.{rows_in}
use Rattle.memory.specs.Held.{held_in}
use Rattle.build.specs.Build.{answer}
use Rattle.lookup.specs.Lookup.{lookup, place_asked, row_result}
use Rattle.lookup.proofs.LookupLaws.{lookup_at}
use Rattle.rise.specs.Rise.{TableRises}
use Rattle.rise.specs.Preorder.{SameRows}
use Rattle.rise.specs.PreorderProof.{table_rises_compose, both_ways_same}
use Rattle.rise.proofs.AroundProof.{same_both_ways}
use Rattle.compare.proofs.TablesDecideProof.{decides}
use Rattle.carry.specs.Carry.{without_bits, carried_table, keeps, carry}
use Rattle.guest_state.specs.State.{compacts, state_verdict}
use Rattle.guest.specs.declared.Processor.{Processor}
use Rattle.guest.specs.Guest.{number_seen, seen_at, guest_table, table_given, guest_answer}
use Rattle.guest.proofs.GuestPagesLaws.{guest_verdict, given_guest}
use Rattle.guest.proofs.SeenLaws.{seen_there}
use Rattle.guest.specs.SeenExactly.{OsxsaveBit, VersionSeen}
use Rattle.guest.proofs.SeenExactlyProof.{seen_exactly}
use Rattle.guest_rise.specs.BuiltState.{Supplied}
use Rattle.guest_rise.specs.StateExactly.{Allowed}
use Rattle.guest_rise.proofs.StateExactlyProof.{given_allowed}
use Rattle.guest_rise.specs.GuestRise.{compacts_in, GuestTableRises, GuestOutcome}
use Rattle.guest_rise.specs.GuestRise.GuestOutcome.{given as risen, too_large as notGiven}
use Rattle.guest_rise.proofs.GuestTablesRise.{table_outcome}
use Rattle.images.specs.CarriedLaws as CarriedLaws
use Rattle.images.specs.CarriedRows.{own_ymm}
use Rattle.guest_life.specs.Sound.{Sound, built_sound}
use Rattle.guest_life.specs.StatesAgree.{StatesAgree, mask_agrees, save_agrees, compact_agrees, verdict_agrees}
use Rattle.guest_life.specs.CarriedOrder.{latest, carried_row, carried_there, carried_mono, carried_twice, kept_same, carried_below, ymm_carried, ymm_mono, keeps_ymm, version_feature, extended_feature}
use Rattle.guest_life.specs.SaveAreas.{SameAreas}
use Rattle.guest_life.specs.SaveAreasProof.{in_mask_lem}
use Rattle.guest_life.proofs.SaveAreasProof.{accepted_of_lem, areas_same}
use Rattle.guest_life.specs.Life.{Life, three_bits, lost_bit, StillShown, RowShown, AskedShown, ViewLasts, LifeOutcome, LifeShows, KeptLifeShows, LifeComesBack, EndsSeeTheSame, LivesSeeTheSame}
use Rattle.guest_life.specs.Life.Life.{starts, moves, carries}
use Rattle.guest_life.specs.Life.LifeOutcome.{given, too_large}
use Rattle.guest_life.specs.LifeProof.{answer_verdict, both, given_table, guest_whole, held_whole, kept_whole, latest_mono, same_sym, same_trans}
use Rattle.guest_life.proofs.LifeRises.{latest_carried, life_rises}
use Rattle.table.specs.Verdict.{Verdict}

-- ---- the bits of the editions

module _ (m : ℕ) (named : ℕ → Bool) where
  abbrev clear_test : ℕ → Bool
  clear_test k = eqb (bit k (2 ^ 32 - 1 - m)) (pick (named k) 0 1)

  bits_kept : every clear_test 32 ≡ true → (y : Bool) (x k : ℕ) → k < 32 → (not y && named k) ≡ false → bit k x ≡ bit k (clear_unless y m x)
  unfolding clear_unless clear
  bits_kept t true x k l n = refl
  bits_kept t false x k l n =
      let one : bit k (2 ^ 32 - 1 - m) ≡ 1 = eqb-true _ _ (every_at clear_test 32 t k l) ∙ ap (λ (b : Bool). pick b 0 1) n in
      omega (arith, bit_and_lem k x (2 ^ 32 - 1 - m), bit_lt k x, one)

version_kept : (y : Bool) (x k : ℕ) → k < 32 → lost_bit y Place.version_and_features k ≡ false → bit k x ≡ bit k (clear_unless y later_bits.version_ecx x)
unfolding later_bits joined_from mask_of bit
version_kept = bits_kept later_bits.version_ecx (three_bits Place.version_and_features) refl

extended_kept : (y : Bool) (x k : ℕ) → k < 32 → lost_bit y Place.extended_version_and_features k ≡ false → bit k x ≡ bit k (clear_unless y later_bits.extended_version_ecx x)
unfolding later_bits joined_from mask_of bit
extended_kept = bits_kept later_bits.extended_version_ecx (three_bits Place.extended_version_and_features) refl

not_26 : (y : Bool) → lost_bit y Place.version_and_features 26 ≡ false
not_26 true = refl
not_26 false = refl

-- ---- the first table's view, and that of it carried

module _ (t : CpuidResults) (v : Processor) (p : Sound t) where
  abbrev y : Bool
  y = own_ymm t

  abbrev G : CpuidResults
  G = guest_table t v

  abbrev C : CpuidResults
  C = guest_table (latest t) v

  latest_elsewhere : (i : ℕ) → i < places → i ≢ Place.version_and_features → i ≢ Place.extended_version_and_features
      → (row_in (latest t) i).result ≡ (row_in t i).result
  latest_elsewhere i l a b = carried_row later_bits y t i l ∙ rw (ne_eqb i Place.version_and_features a, ne_eqb i Place.extended_version_and_features b)

  states_latest : StatesAgree t (latest t) v.xcr0 v.xss
  states_latest = record {
    xfem = ap (λ (r : CpuidResult). r.eax) (sym (carried_row later_bits y t (Place.extended_state 0) (lit< tt)));
    eax = ap (λ (r : CpuidResult). r.eax) (sym (carried_row later_bits y t (Place.extended_state 1) (lit< tt)));
    ecx = ap (λ (r : CpuidResult). r.ecx) (sym (carried_row later_bits y t (Place.extended_state 1) (lit< tt)));
    components = λ k l h d. sym (latest_elsewhere (Place.extended_state k) (omega arith) (λ e. omega arith) (λ e. omega arith));
  }

  supplied_latest : Supplied (latest t)
  supplied_latest = record {
    required = p.supplied.required;
    components = λ k l h e. p.supplied.components k l h (ap (has k) (mask_agrees t (latest t) v.xcr0 v.xss states_latest) ∙ e);
  }

  record Carried (i : ℕ) (r s : CpuidResult) : Type 0 where
    eax : r.eax ≡ s.eax
    ebx : r.ebx ≡ s.ebx
    bits : (k : ℕ) → k < 32 → lost_bit y i k ≡ false → bit k r.ecx ≡ bit k s.ecx
    edx : r.edx ≡ s.edx

  there1 : (row_in t Place.version_and_features).present ≡ true
  there1 = p.supplied.required Place.version_and_features (lit< tt) refl

  version_carried : Carried Place.version_and_features (row_in G Place.version_and_features).result (row_in C Place.version_and_features).result
  unfolding has
  version_carried =
      let c = carried_there later_bits y t Place.version_and_features (lit< tt) there1 in
      let a : VersionSeen v (row_in t Place.version_and_features).result (row_in G Place.version_and_features).result = (seen_exactly t v).version there1 in
      let b : VersionSeen v (row_in (latest t) Place.version_and_features).result (row_in C Place.version_and_features).result =
      (seen_exactly (latest t) v).version there1 in
      let g = seen_there t v Place.version_and_features (lit< tt) there1 in
      let h = seen_there (latest t) v Place.version_and_features (lit< tt) there1 in
      record {
        eax = a.eax ∙ sym (ap (λ (r : CpuidResult). r.eax) c) ∙ sym b.eax;
        ebx =
            ap (λ (r : CpuidResult). r.ebx) g
            ∙ ap (λ (r : CpuidResult). number_seen v.x2apic r.ebx) (sym c)
            ∙ sym (ap (λ (r : CpuidResult). r.ebx) h);
        bits = λ k l n. go k l n (same c) a.ecx b.ecx (eqb k 27) refl;
        edx = a.edx ∙ sym (ap (λ (r : CpuidResult). r.edx) c) ∙ sym b.edx;
      }
    where
      same : (row_in (latest t) Place.version_and_features).result
          ≡ without_bits y later_bits.version_ecx (row_in t Place.version_and_features).result
          → (k : ℕ) → k < 32 → lost_bit y Place.version_and_features k ≡ false
          → bit k (row_in t Place.version_and_features).result.ecx ≡ bit k (row_in (latest t) Place.version_and_features).result.ecx
      same c k l n =
          version_kept y (row_in t Place.version_and_features).result.ecx k l n ∙ sym (ap (λ (r : CpuidResult). bit k r.ecx) c)

      go : (k : ℕ) → k < 32 → lost_bit y Place.version_and_features k ≡ false
          → ((j : ℕ) → j < 32 → lost_bit y Place.version_and_features j ≡ false
          → bit j (row_in t Place.version_and_features).result.ecx ≡ bit j (row_in (latest t) Place.version_and_features).result.ecx)
          → OsxsaveBit v.osxsave (row_in t Place.version_and_features).result.ecx (row_in G Place.version_and_features).result.ecx
          → OsxsaveBit v.osxsave (row_in (latest t) Place.version_and_features).result.ecx (row_in C Place.version_and_features).result.ecx
          → (b : Bool) → eqb k 27 ≡ b
          → bit k (row_in G Place.version_and_features).result.ecx ≡ bit k (row_in C Place.version_and_features).result.ecx
      go k l n f a b true e =
          let q : k ≡ 27 = eqb-true k 27 e in
          ap (λ (i : ℕ). bit i (row_in G Place.version_and_features).result.ecx) q
          ∙ a.osxsave
          ∙ ap (λ (n : ℕ). pick (v.osxsave && eqb n 1) 1 0) (f 26 (lit< tt) (not_26 y))
          ∙ sym b.osxsave
          ∙ ap (λ (i : ℕ). bit i (row_in C Place.version_and_features).result.ecx) (sym q)
      go k l n f a b false e = let m : k ≢ 27 = eqb-false k 27 e in a.others k l m ∙ f k l n ∙ sym (b.others k l m)

  there71 : (row_in t Place.extended_version_and_features).present ≡ true
  there71 = p.supplied.required Place.extended_version_and_features (lit< tt) refl

  extended_seen : (u : CpuidResults) → (row_in (guest_table u v) Place.extended_version_and_features).result ≡ (row_in u Place.extended_version_and_features).result
  extended_seen u =
      (seen_exactly u v).elsewhere Place.extended_version_and_features (lit< tt)
      (λ e. omega arith) (λ e. omega arith) (λ e. omega arith) (λ e. omega arith) (λ e. omega arith)

  extended_carried : Carried Place.extended_version_and_features (row_in G Place.extended_version_and_features).result
      (row_in C Place.extended_version_and_features).result
  extended_carried =
      let c = carried_there later_bits y t Place.extended_version_and_features (lit< tt) there71 in
      rw (extended_seen t, extended_seen (latest t), c)
      (record { eax = refl; ebx = refl; bits = λ k l n. extended_kept y _ k l n; edx = refl })

  -- every other row is seen alike
  elsewhere_carried : (i : ℕ) → i < places → i ≢ Place.version_and_features → i ≢ Place.extended_version_and_features → (row_in t i).present ≡ true
      → (row_in G i).result ≡ (row_in C i).result
  elsewhere_carried i l a b e =
      let s = save_agrees t (latest t) v.xcr0 v.xss states_latest in
      let c = compact_agrees t (latest t) v.xcr0 v.xss states_latest in
      let r = sym (latest_elsewhere i l a b) in
      seen_there t v i l e ∙ (λ k. seen_at v (s k) (c k) i (row (r k))) ∙ sym (seen_there (latest t) v i l e)

  compacts_carried : compacts_in G ≡ compacts_in C
  compacts_carried =
      ap (λ (r : CpuidResult). compacts r.eax)
      (elsewhere_carried (Place.extended_state 1) (lit< tt) (λ e. omega arith) (λ e. omega arith)
      (p.supplied.required (Place.extended_state 1) (lit< tt) refl))

  -- ---- what is still shown, of a table that rises from the one carried

  module _ (h : CpuidResults) (wholeH : length h.present ≤ places) (rises : GuestTableRises C h) where
    still : (lost : ℕ → Bool) (k : Kind) (a b : ℕ) → TableAtLeast k a b → StillShown lost k a b
    still lost feature a b q = λ k l n. q.at k
    still lost feature_but28 a b q = q
    still lost area a b q = q
    still lost freed a b q = q
    still lost other a b q = q

    shown_carried : (i : ℕ) (r s q : CpuidResult) → (kinds_at i).ecx ≡ feature → Carried i r s → Registers TableAtLeast (kinds_at i) s q
        → RowShown (lost_bit y i) i r q
    shown_carried i r s q e c w =
        let f : Within s.ecx q.ecx = subst (λ (k : Kind). TableAtLeast k s.ecx q.ecx) e w.ecx in
        record {
          eax = subst (λ (n : ℕ). TableAtLeast (kinds_at i).eax n q.eax) (sym c.eax) w.eax;
          ebx = subst (λ (n : ℕ). TableAtLeast (kinds_at i).ebx n q.ebx) (sym c.ebx) w.ebx;
          ecx =
              subst (λ (k : Kind). StillShown (lost_bit y i) k r.ecx q.ecx) (sym e)
              (λ k l n. subst (λ (m : ℕ). m ≤ bit k q.ecx) (sym (c.bits k l n)) (f.at k));
          edx = subst (λ (n : ℕ). TableAtLeast (kinds_at i).edx n q.edx) (sym c.edx) w.edx;
        }

    shown_same : (i : ℕ) (r s q : CpuidResult) → r ≡ s → Registers TableAtLeast (kinds_at i) s q → RowShown (lost_bit y i) i r q
    shown_same i r s q e w =
        rw e (record { eax = w.eax; ebx = w.ebx; ecx = still (lost_bit y i) (kinds_at i).ecx s.ecx q.ecx w.ecx; edx = w.edx })

    shown_at : (i : ℕ) → i < places → (row_in G i).present ≡ true → (i ≡ Place.extended_state 1 → compacts_in G ≡ true)
        → RowShown (lost_bit y i) i (row_in G i).result (row_in h i).result
    shown_at i l e c = go (eqb i Place.version_and_features) (eqb i Place.extended_version_and_features) refl refl
      where
        q : Registers TableAtLeast (kinds_at i) (row_in C i).result (row_in h i).result
        q = rises.registers i l e (λ z. sym compacts_carried ∙ c z)

        go : (a b : Bool) → eqb i Place.version_and_features ≡ a → eqb i Place.extended_version_and_features ≡ b
            → RowShown (lost_bit y i) i (row_in G i).result (row_in h i).result
        go true b f g =
            let z : i ≡ Place.version_and_features = eqb-true i Place.version_and_features f in
            shown_carried i _ _ _ (version_feature i z)
            (subst (λ (j : ℕ). Carried j (row_in G j).result (row_in C j).result) (sym z) version_carried) q
        go false true f g =
            let z : i ≡ Place.extended_version_and_features = eqb-true i Place.extended_version_and_features g in
            shown_carried i _ _ _ (extended_feature i z)
            (subst (λ (j : ℕ). Carried j (row_in G j).result (row_in C j).result) (sym z) extended_carried) q
        go false false f g =
            shown_same i _ _ _
            (elsewhere_carried i l (eqb-false i Place.version_and_features f) (eqb-false i Place.extended_version_and_features g) e) q

    -- the two sizes
    sizes : SameAreas C h 0
    sizes =
        areas_same C h 0 rises (λ k l e. absurd (omega (arith, zero_bit k)))
        (p.supplied.required (Place.extended_state 0) (lit< tt) refl) (p.supplied.required (Place.extended_state 1) (lit< tt) refl)

    -- ---- questions

    found_row : (r : Row) (x : CpuidResult) → row_result r ≡ Some x → (r.present ≡ true) × (r.result ≡ x)
    found_row r x e = go r.present e
      where
        go : (b : Bool) → pick b (Some r.result) None ≡ Some x → (b ≡ true) × (r.result ≡ x)
        go true f = (refl, cc)
        go false f = absurd (let z : ◌≡◌ {A = ℕ} 0 1 = cc in omega arith)

    inside : (i : ℕ) → (row_in G i).present ≡ true → i < places
    inside i e = go (ltb i places) refl
      where
        go : (b : Bool) → ltb i places ≡ b → i < places
        go true f = ltb-true i places f
        go false f =
            let k : length t.present ≤ i = omega (arith, p.whole, ltb-false i places f) in
            absurd (never_both e (get_or-eq_default t.present false k))

    asked_at : (leaf : CpuidFunction) (sub : Option ℕ) (enforce : Bool) (r : CpuidResult) → lookup G leaf sub enforce ≡ Some r
        → AskedShown (lost_bit y) G h leaf sub enforce r
    asked_at leaf sub enforce r e =
        let i : ℕ = place_asked leaf sub enforce in
        let f = found_row (row_in G i) r (lookup_at G p.whole leaf sub enforce i refl ∙ e) in
        let l = inside i f.0 in
        record {
          registers = (row_in h i).result;
          found = sym (lookup_at h wholeH leaf sub enforce i refl) ∙ pick_true _ _ (rises.rows i l f.0);
          shown = λ c. subst (λ (x : CpuidResult). RowShown (lost_bit y i) i x (row_in h i).result) f.1 (shown_at i l f.0 c);
        }

    pub view_lasts : ViewLasts (lost_bit y) G h
    view_lasts = record {
      rows = rises.rows;
      registers = shown_at;
      standard =
          ap (λ (r : CpuidResult). r.ebx)
          (elsewhere_carried (Place.extended_state 0) (lit< tt) (λ e. omega arith) (λ e. omega arith)
          (p.supplied.required (Place.extended_state 0) (lit< tt) refl))
          ∙ sizes.standard;
      compacted = λ c.
          ap (λ (r : CpuidResult). r.ebx)
          (elsewhere_carried (Place.extended_state 1) (lit< tt) (λ e. omega arith) (λ e. omega arith)
          (p.supplied.required (Place.extended_state 1) (lit< tt) refl))
          ∙ sizes.compacted (sym compacts_carried ∙ c);
      asked = asked_at;
    }

-- any table that is sound
module _ (t w : CpuidResults) (life : Life t w) (v : Processor) (p : Sound t) (whole : length w.present ≤ places)
    (isGiven : state_verdict (rows_of_table t) v.xcr0 v.xss ≡ Ok tt) where
  given_c : state_verdict (rows_of_table (latest t)) v.xcr0 v.xss ≡ Ok tt
  given_c = sym (verdict_agrees t (latest t) v.xcr0 v.xss (states_latest t v p)) ∙ isGiven

  pub life_outcome : LifeOutcome (lost_bit (own_ymm t)) (guest_table t v) (guest_answer w v)
  life_outcome =
      go (table_outcome (latest t) w v (life_rises life) (supplied_latest t v p) (given_allowed (rows_of_table (latest t)) v.xcr0 v.xss given_c) given_c)
    where
      go : GuestOutcome (guest_answer (latest t) v).table (guest_answer w v) → LifeOutcome (lost_bit (own_ymm t)) (guest_table t v) (guest_answer w v)
      go (risen e r) =
          given e (view_lasts t v p (guest_answer w v).table (guest_whole w v whole e)
          (subst (λ (c : CpuidResults). GuestTableRises c (guest_answer w v).table) (given_table (latest t) v given_c) r))
      go (notGiven c e) = too_large (compacts_carried t v p ∙ sym (ap compacts_in (given_table (latest t) v given_c)) ∙ c) e

pub life_shows : LifeShows
life_shows chosen s w life whole v g =
    let a = accepted_of_lem chosen s v g in
    rw (given_guest chosen s v a g)
    (life_outcome (answer chosen s).table w life v (built_sound chosen s a) whole (sym (guest_verdict chosen s v a) ∙ g))

pub kept_life_shows : KeptLifeShows
kept_life_shows chosen s w o x q k life =
    life_shows chosen s (held_in x q) (subst (λ (t : CpuidResults). Life t (held_in x q)) k.table life) (held_whole x q)

-- a life carried is a life of tables carried
life_latest : {t u : CpuidResults} → Life t u → TableRises (latest t) (latest u)
life_latest {t} {u} l =
    table_rises_compose (latest t) (latest (latest t)) (latest u) (latest_carried later_bits (inside_itself later_bits) (own_ymm t) t (λ e. e)) (latest_mono (latest t) u (life_rises l))

life_ymm : {t u : CpuidResults} → Life t u → own_ymm t ≡ true → own_ymm u ≡ true
life_ymm {t} {u} l e = ymm_mono (latest t) u (life_rises l) (ymm_carried later_bits (own_ymm t) t ∙ e)

pub life_comes_back : LifeComesBack
life_comes_back t u out back =
    let same : SameRows (latest t) (latest u) = both_ways_same (latest t) (latest u) (life_latest out) (life_latest back) in
    record {
      ymm = both (own_ymm t) (own_ymm u) (life_ymm out) (life_ymm back);
      carried = same;
      whole = λ e.
          same_trans t (latest t) u (same_sym (latest t) t (kept_whole t e))
          (same_trans (latest t) (latest u) u same (kept_whole u (life_ymm out e)));
    }

-- ---- lives that end where they began

module _ (t u : CpuidResults) (v : Processor) (p : Sound t) (same : SameRows t u)
    (isGiven : state_verdict (rows_of_table t) v.xcr0 v.xss ≡ Ok tt) where
  allows : Allowed (rows_of_table t) v.xcr0 v.xss
  allows = given_allowed (rows_of_table t) v.xcr0 v.xss isGiven

  states_same : StatesAgree t u v.xcr0 v.xss
  states_same = record {
    xfem = ap (λ (r : CpuidResult). r.eax) (same.registers (Place.extended_state 0) (lit< tt) (p.supplied.required (Place.extended_state 0) (lit< tt) refl));
    eax = ap (λ (r : CpuidResult). r.eax) (same.registers (Place.extended_state 1) (lit< tt) (p.supplied.required (Place.extended_state 1) (lit< tt) refl));
    ecx = ap (λ (r : CpuidResult). r.ecx) (same.registers (Place.extended_state 1) (lit< tt) (p.supplied.required (Place.extended_state 1) (lit< tt) refl));
    components = λ k l h e.
        same.registers (Place.extended_state k) (omega arith)
        (p.supplied.components k l h (in_mask_lem t v p allows k (has_bit k (bit_or v.xcr0 v.xss) e)));
  }

  given_u : state_verdict (rows_of_table u) v.xcr0 v.xss ≡ Ok tt
  given_u = sym (verdict_agrees t u v.xcr0 v.xss states_same) ∙ isGiven

  same_seen : SameRows (guest_table t v) (guest_table u v)
  same_seen =
      let s = save_agrees t u v.xcr0 v.xss states_same in
      let c = compact_agrees t u v.xcr0 v.xss states_same in
      record {
        present = same.present;
        registers = λ i l e.
            let r = same.registers i l e in
            seen_there t v i l e ∙ (λ k. seen_at v (s k) (c k) i (row (r k))) ∙ sym (seen_there u v i l (sym (same.present i l) ∙ e));
        mask = same.mask;
      }

  pub end_given : (guest_answer u v).verdict ≡ Ok tt
  end_given = answer_verdict u v ∙ given_u

  pub end_seen : SameRows (guest_table t v) (guest_answer u v).table
  end_seen = rw (given_table u v given_u) same_seen

pub ends_see_the_same : EndsSeeTheSame
ends_see_the_same t u w a b p v g =
    let e = sym (answer_verdict t v) ∙ g in (
      end_given t u v p a e,
      end_given t w v p b e,
      same_trans (guest_answer u v).table (guest_table t v) (guest_answer w v).table
          (same_sym (guest_table t v) (guest_answer u v).table (end_seen t u v p a e)) (end_seen t w v p b e),
    )

pub lives_see_the_same : LivesSeeTheSame
lives_see_the_same t u w a b c d y p v g =
    ends_see_the_same t u w ((life_comes_back t u a b).whole y) ((life_comes_back t w c d).whole y) p v g
