-- The table that carrying to the last edition gives, order by order: carrying loses no more than the bits of the editions, keeps the order of tables,
-- and carrying twice loses nothing more.
use Rattle.std.specs.Prelude.{◌≡◌, Bool, ◌&&◌, ◌||◌, ℕ, ◌-◌, ◌^◌, ◌<◌, eqb}
use Rattle.std.proofs.Math.Path.{refl}
use Rattle.std.proofs.Common.{sym, ap, ◌∙◌, subst, subst₂, ⊎_elim, inl, inr, arith, lit<, eqb-true}
use Rattle.std.proofs.Math.Bool.{true, false}
use Rattle.bits.specs.Choice.{pick}
use Rattle.bits.specs.ChoiceLaws.{never_both}
use Rattle.bits.specs.Bits.{bit, has, Within, clear, clear_unless}
use Rattle.bits.specs.BitsLaws.{bit_and_lem, within_refl, within_trans, within_and, clear_within}
use Rattle.bits.proofs.BitsLaws.{has_mono}
use Rattle.bits.proofs.ComplementLaws.{within_left}
use Rattle.bits.specs.ListsLaws.{get_d_tabulate}
use Rattle.x86defs.specs.declared.CpuidResult.{CpuidResult}
use Rattle.x86defs.specs.Functions.{cpuid_result}
use Rattle.masking.specs.Kept.{places}
use Rattle.masking.specs.Place
use Rattle.table.specs.declared.CpuidResults.{CpuidResults}
use Rattle.table.specs.declared.edition.EditionBits.{EditionBits}
use Rattle.table.specs.Edition.{later_bits}
use Rattle.table.specs.EditionLaws.{Inside, later_small}
use Rattle.table.specs.Table.{row_in}
use Rattle.checks.specs.ExtendedState.{xfem}
use Rattle.finish.specs.Kinds.{Kind, Kinds, TableAtLeast, Registers, kinds_at}
use Rattle.finish.specs.Kinds.Kind.{feature}
use Rattle.finish.specs.RuleKinds.{kinds_at_lem}
use Rattle.rise.specs.Rise.{Further, TableRises}
use Rattle.rise.specs.Preorder.{SameRows}
use Rattle.rise.specs.PreorderProof.{registers_itself, table_rises_itself, table_rises_compose}
use Rattle.rise.proofs.AroundProof.{same_both_ways}
use Rattle.carry.specs.Carry.{without_bits, carried_at, carried_table, keeps}
use Rattle.guest_rise.specs.SeenRises.{state0_eax}
use Rattle.images.specs.CarriedRows.{own_ymm}

-- what carrying from edition 1 to the last one makes of a table by its own D.0.EAX
abbrev pub latest : CpuidResults → CpuidResults
latest t = carried_table later_bits (own_ymm t) t

-- ---- bits

-- cleared or not, in order
within_clear : (b c : Bool) (m : ℕ) {x y : ℕ} → (b ≡ true → c ≡ true) → Within x y → Within (clear_unless b m x) (clear_unless c m y)
unfolding clear_unless clear
within_clear true true m f h = h
within_clear true false m f h = absurd (never_both (f refl) refl)
within_clear false true m {x} {y} f h = within_trans (clear_within m x) h
within_clear false false m f h = within_and h (within_refl _)

-- cleared twice, first of fewer bits
within_twice : (c : Bool) (m n x : ℕ) → n < 2 ^ 32 → Within m n → Within (clear_unless false n x) (clear_unless c n (clear_unless false m x))
unfolding clear_unless clear
within_twice true m n x l h = within_and (within_refl x) (within_left l h)
within_twice false m n x l h = record {
  at = λ k.
      let u = (within_left l h).at k in
      omega (arith, u, bit_and_lem k (Rattle.bits.specs.Bits.clear m x) (2 ^ 32 - 1 - n), bit_and_lem k x (2 ^ 32 - 1 - n), bit_and_lem k x (2 ^ 32 - 1 - m));
}

-- ---- rows

pub carried_row : (bits : EditionBits) (b : Bool) (t : CpuidResults) (i : ℕ) → i < places
    → (row_in (carried_table bits b t) i).result ≡ carried_at bits b i (row_in t i)
carried_row bits b t i l = get_d_tabulate places (λ j. carried_at bits b j (row_in t j)) i (cpuid_result 0 0 0 0) l

-- of a row that is there
abbrev pub carried_to : EditionBits → Bool → ℕ → CpuidResult → CpuidResult
carried_to bits b i r = carried_at bits b i (record { present = true; result = r })

pub carried_there : (bits : EditionBits) (b : Bool) (t : CpuidResults) (i : ℕ) → i < places → (row_in t i).present ≡ true
    → (row_in (carried_table bits b t) i).result ≡ carried_to bits b i (row_in t i).result
carried_there bits b t i l p =
    carried_row bits b t i l ∙ ap (λ (q : Bool). carried_at bits b i (record { present = q; result = (row_in t i).result })) p

module _ (i : ℕ) where
  abbrev RowRises : CpuidResult → CpuidResult → Type 0
  RowRises r s = Registers TableAtLeast (kinds_at i) r s

  -- one register is replaced, a feature register
  ecx_risen : (r s : CpuidResult) (a c : ℕ) → (kinds_at i).ecx ≡ feature → RowRises r s → (Within r.ecx s.ecx → Within a c)
      → RowRises (cpuid_result r.eax r.ebx a r.edx) (cpuid_result s.eax s.ebx c s.edx)
  ecx_risen r s a c e q f = record {
    eax = q.eax;
    ebx = q.ebx;
    ecx =
        subst (λ (k : Kind). TableAtLeast k a c) (sym e) (f (subst (λ (k : Kind). TableAtLeast k r.ecx s.ecx) e q.ecx));
    edx = q.edx;
  }

pub version_feature : (i : ℕ) → i ≡ Place.version_and_features → (kinds_at i).ecx ≡ feature
version_feature i e = rw e (ap (λ (k : Kinds). k.ecx) (kinds_at_lem Place.version_and_features (lit< tt)))

pub extended_feature : (i : ℕ) → i ≡ Place.extended_version_and_features → (kinds_at i).ecx ≡ feature
extended_feature i e = rw e (ap (λ (k : Kinds). k.ecx) (kinds_at_lem Place.extended_version_and_features (lit< tt)))

module _ (bits : EditionBits) where
  abbrev v : ℕ
  v = bits.version_ecx

  abbrev x : ℕ
  x = bits.extended_version_ecx

  rises_at : (b c : Bool) (i : ℕ) (r s : CpuidResult) → (b ≡ true → c ≡ true) → RowRises i r s
      → RowRises i (carried_to bits b i r) (carried_to bits c i s)
  rises_at b c i r s f q = go (eqb i Place.version_and_features) (eqb i Place.extended_version_and_features) refl refl
    where
      go : (y z : Bool) → eqb i Place.version_and_features ≡ y → eqb i Place.extended_version_and_features ≡ z
          → RowRises i (pick (y && true) (without_bits b v r) (pick (z && true) (without_bits b x r) r))
          (pick (y && true) (without_bits c v s) (pick (z && true) (without_bits c x s) s))
      go true z d e = ecx_risen i r s _ _ (version_feature i (eqb-true i Place.version_and_features d)) q (within_clear b c v f)
      go false true d e = ecx_risen i r s _ _ (extended_feature i (eqb-true i Place.extended_version_and_features e)) q (within_clear b c x f)
      go false false d e = q

  -- cleared of these bits and then of all
  twice_at : Inside bits later_bits → (c : Bool) (i : ℕ) (r : CpuidResult)
      → RowRises i (carried_to later_bits false i r) (carried_to later_bits c i (carried_to bits false i r))
  twice_at h c i r = go (eqb i Place.version_and_features) (eqb i Place.extended_version_and_features) refl refl
    where
      all_v : ℕ
      all_v = later_bits.version_ecx

      all_x : ℕ
      all_x = later_bits.extended_version_ecx

      go : (y z : Bool) → eqb i Place.version_and_features ≡ y → eqb i Place.extended_version_and_features ≡ z
          → RowRises i (pick (y && true) (without_bits false all_v r) (pick (z && true) (without_bits false all_x r) r))
          (pick (y && true) (without_bits c all_v (pick (y && true) (without_bits false v r) (pick (z && true) (without_bits false x r) r)))
          (pick (z && true) (without_bits c all_x (pick (y && true) (without_bits false v r) (pick (z && true) (without_bits false x r) r)))
          (pick (y && true) (without_bits false v r) (pick (z && true) (without_bits false x r) r))))
      go true z d e =
          let q = without_bits false all_v r in
          ecx_risen i q q _ _ (version_feature i (eqb-true i Place.version_and_features d)) (registers_itself (kinds_at i) q)
          (λ w. within_twice c v all_v r.ecx later_small.0 h.version)
      go false true d e =
          let q = without_bits false all_x r in
          ecx_risen i q q _ _ (extended_feature i (eqb-true i Place.extended_version_and_features e)) (registers_itself (kinds_at i) q)
          (λ w. within_twice c x all_x r.ecx later_small.1 h.extended)
      go false false d e = registers_itself (kinds_at i) r

  -- ---- tables

  further_carried : (b c : Bool) (t u : CpuidResults) (i : ℕ) → Further t u i → Further (carried_table bits b t) (carried_table bits c u) i
  further_carried b c t u i f = record { subleaf = f.subleaf; place = f.place; from = f.from; below = f.below; in_b = f.in_b; not_in_a = f.not_in_a }

  pub carried_mono : (b c : Bool) (t u : CpuidResults) → (b ≡ true → c ≡ true) → TableRises t u
      → TableRises (carried_table bits b t) (carried_table bits c u)
  carried_mono b c t u f r = record {
    rows = r.rows;
    registers = λ i l p.
        subst₂ (Registers TableAtLeast (kinds_at i)) (sym (carried_there bits b t i l p)) (sym (carried_there bits c u i l (r.rows i l p)))
        (rises_at b c i _ _ f (r.registers i l p));
    others = λ i l p. ⊎_elim (λ q. inl q) (λ q. inr (further_carried b c t u i q)) (r.others i l p);
    mask = r.mask;
  }

  pub carried_twice : Inside bits later_bits → (c : Bool) (t : CpuidResults)
      → TableRises (carried_table later_bits false t) (carried_table later_bits c (carried_table bits false t))
  carried_twice h c t = record {
    rows = λ i l p. p;
    registers = λ i l p.
        subst₂ (Registers TableAtLeast (kinds_at i)) (sym (carried_there later_bits false t i l p))
        (sym (carried_there later_bits c (carried_table bits false t) i l p ∙ ap (carried_to later_bits c i) (carried_there bits false t i l p)))
        (twice_at h c i (row_in t i).result);
    others = λ i l p. inl p;
    mask = within_refl _;
  }

  -- nothing is lost where the bits are kept
  kept_at : (i : ℕ) (r : CpuidResult) → carried_to bits true i r ≡ r
  unfolding clear_unless
  kept_at i r = go (eqb i Place.version_and_features) (eqb i Place.extended_version_and_features)
    where
      go : (y z : Bool) → pick (y && true) (without_bits true v r) (pick (z && true) (without_bits true x r) r) ≡ r
      go true z = refl
      go false true = refl
      go false false = refl

  pub kept_same : (t : CpuidResults) → SameRows (carried_table bits true t) t
  kept_same t = record { present = λ i l. refl; registers = λ i l p. carried_there bits true t i l p ∙ kept_at i (row_in t i).result; mask = refl }

  -- a table is at least itself carried
  pub carried_below : (b : Bool) (t : CpuidResults) → TableRises (carried_table bits b t) t
  carried_below b t =
      table_rises_compose (carried_table bits b t) (carried_table bits true t) t (carried_mono b true t t (λ e. refl) (table_rises_itself t))
      (same_both_ways (carried_table bits true t) t (kept_same t)).0

-- ---- bit 2 of its own D.0.EAX

pub ymm_carried : (bits : EditionBits) (b : Bool) (t : CpuidResults) → own_ymm (carried_table bits b t) ≡ own_ymm t
ymm_carried bits b t =
    ap (λ (r : CpuidResult). has 2 (pick (row_in t (Place.extended_state 0)).present r.eax 0))
    (carried_row bits b t (Place.extended_state 0) (lit< tt))

none_of_zero : has 2 0 ≡ false
unfolding has bit
none_of_zero = refl

pub ymm_mono : (t u : CpuidResults) → TableRises t u → own_ymm t ≡ true → own_ymm u ≡ true
ymm_mono t u r e = go (row_in t (Place.extended_state 0)).present refl e
  where
    go : (p : Bool) → (row_in t (Place.extended_state 0)).present ≡ p → has 2 (pick p (row_in t (Place.extended_state 0)).result.eax 0) ≡ true
        → own_ymm u ≡ true
    go false f h = absurd (never_both h none_of_zero)
    go true f h =
        rw (r.rows (Place.extended_state 0) (lit< tt) f)
        (has_mono 2 (state0_eax _ _ (r.registers (Place.extended_state 0) (lit< tt) f)) h)

pub keeps_ymm : (t : CpuidResults) (from to : ℕ) → own_ymm t ≡ true → keeps t from to ≡ true
unfolding keeps xfem
keeps_ymm t from to e = go (eqb from to) (row_in t (Place.extended_state 0)).present e
  where
    go : (b p : Bool) → has 2 (pick p (row_in t (Place.extended_state 0)).result.eax 0) ≡ true
        → (b || has 2 (pick p (row_in t (Place.extended_state 0)).result (cpuid_result 0 0 0 0)).eax) ≡ true
    go true p h = refl
    go false true h = h
    go false false h = h
