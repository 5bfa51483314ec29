-- The answer means what it says, and no other answer does, whatever the tests of a register, of a row too many and of the masks decide.
use Rattle.std.specs.Prelude.{◌≡◌, Bool, true, false}
use Rattle.std.proofs.Math.Path.{refl, ap}
use Rattle.std.proofs.Common.{sym, ◌∙◌, inl, inr, ⊎_elim}
use Prim.Native.Nat.{ℕ, zero-le}
use Rattle.bits.specs.Choice.{pick}
use Rattle.bits.specs.ChoiceLaws.{pick_true, pick_false}
use Rattle.bits.specs.Search.{Failing, lowest}
use Rattle.bits.specs.Search.Failing.{at, none}
use Rattle.bits.specs.SearchLaws.{Lowest, lowest_none, lowest_all, lowest_at, lowest_unique}
use Rattle.masking.specs.Kept.{places, leaf_at}
use Rattle.table.specs.Rows.{Rows}
use Rattle.finish.specs.Kinds.{Registers, all_registers, kinds_at}
use Rattle.finish.specs.RegisterTestLaws.{registers_hold}
use Rattle.compare.specs.declared.registers.Register.{Register}
use Rattle.compare.specs.declared.registers.Register.TheVariants.{Eax, Ebx, Ecx, Edx}
use Rattle.compare.specs.declared.search.RowsCompared.{RowsCompared}
use Rattle.compare.specs.declared.search.RowsCompared.TheVariants.{Rises, NoRow, Differs, Beyond, MaskLacks}
use Rattle.compare.specs.Registers.{registers_rise, first_to_fail, value_of, kind_of, subleaf_named}
use Rattle.compare.specs.RegistersLaws.{is_true, is_false, register_fails, registers_before_lem, first_unique}
use Rattle.compare.specs.RowsCompared.{Wanted, rises, place_compared, place_test, first_failing, rows_compared}
use Rattle.compare.specs.RowsMean.{Sides, RegisterRises, PlaceRises, AtPlace, First, AllRise, RowsMean}
use Rattle.compare.specs.RowsDecideProof.{Tested, never}

module _ (w : Wanted) (s : Sides) (d : Tested w s) where
  abbrev A : Rows
  A = s.A

  abbrev B : Rows
  B = s.B

  -- ---- the registers of a place

  abbrev passes : ℕ → Register → Bool
  passes i q = w.register (kind_of q (kinds_at i)) (value_of q (A i).result) (value_of q (B i).result)

  sound : (i : ℕ) (q : Register) → passes i q ≡ true → RegisterRises s i q
  sound i q = d.passed (kind_of q (kinds_at i)) (value_of q (A i).result) (value_of q (B i).result)

  whole : (i : ℕ) (q : Register) → RegisterRises s i q → passes i q ≡ true
  whole i q = d.passing (kind_of q (kinds_at i)) (value_of q (A i).result) (value_of q (B i).result)

  abbrev registers_pass : ℕ → Bool
  registers_pass i = all_registers w.register (kinds_at i) (A i).result (B i).result

  abbrev first : ℕ → Register
  first i = first_to_fail (registers_rise w.register (kinds_at i) (A i).result (B i).result)

  all_pass : (i : ℕ) → registers_pass i ≡ true → Registers s.AtLeast (kinds_at i) (A i).result (B i).result
  all_pass i = registers_hold w.register s.AtLeast d.passed (kinds_at i) (A i).result (B i).result

  register_of_lem : (i : ℕ) → Registers s.AtLeast (kinds_at i) (A i).result (B i).result → (q : Register) → RegisterRises s i q
  register_of_lem i h Eax = h.eax
  register_of_lem i h Ebx = h.ebx
  register_of_lem i h Ecx = h.ecx
  register_of_lem i h Edx = h.edx

  -- ---- a place

  abbrev here : ℕ → RowsCompared
  here = place_compared w A B

  abbrev test : ℕ → Bool
  test = place_test w A B

  abbrev last : RowsCompared
  last = pick w.masks Rises MaskLacks

  -- the answer of a place is so there: by the presence of the two rows, their registers and whether B may have one
  place_is : (i : ℕ) → AtPlace s i (here i)
  place_is i = go (A i).present refl (B i).present refl (registers_pass i) refl (w.beyond i) refl
    where
      go : (p : Bool) → (A i).present ≡ p → (q : Bool) → (B i).present ≡ q → (r : Bool) → registers_pass i ≡ r → (m : Bool) → w.beyond i ≡ m
          → AtPlace s i (pick p (pick q (pick r Rises (Differs (leaf_at i) (subleaf_named i) (first i))) (NoRow (leaf_at i) (subleaf_named i)))
          (pick q (pick m Rises (Beyond (leaf_at i) (subleaf_named i))) Rises))
      go true e true f true g m u = record { rows = λ _. f; registers = λ _. all_pass i g; others = λ _. inl e }
      go true e true f false g m u = record {
        leaf_at_place = refl;
        subleaf_at_place = refl;
        in_a = e;
        in_b = f;
        fails = register_fails (passes i) (RegisterRises s i) (sound i) (whole i) g;
        registers_before = registers_before_lem (passes i) (RegisterRises s i) (sound i) (whole i);
      }
      go true e false f r g m u = record { leaf_at_place = refl; subleaf_at_place = refl; in_a = e; absent = f }
      go false e true f r g true u = record { rows = never e; registers = never e; others = λ _. inr (d.allowed i u) }
      go false e true f r g false u = record {
        leaf_at_place = refl;
        subleaf_at_place = refl;
        not_in_a = e;
        in_b = f;
        may_not = λ x. never u (d.allowing i x);
      }
      go false e false f r g m u = record { rows = never e; registers = never e; others = never f }

  -- an answer that is so at a place speaks against what a place that rises has
  fails_there : (i : ℕ) (c : RowsCompared) → rises c ≡ false → AtPlace s i c → PlaceRises s i → ⊥
  fails_there i Rises e m h = never e refl
  fails_there i (NoRow leaf subleaf) e m h = never m.absent (h.rows m.in_a)
  fails_there i (Differs leaf subleaf q) e m h = m.fails (register_of_lem i (h.registers m.in_a) q)
  fails_there i (Beyond leaf subleaf) e m h = ⊎_elim (never m.not_in_a) m.may_not (h.others m.in_b)
  fails_there i MaskLacks e m h = m

  place_rises : (i : ℕ) → test i ≡ true → PlaceRises s i
  place_rises i e = go (here i) e (place_is i)
    where
      go : (c : RowsCompared) → rises c ≡ true → AtPlace s i c → PlaceRises s i
      go Rises e m = m
      go (NoRow leaf subleaf) e m = never refl e
      go (Differs leaf subleaf q) e m = never refl e
      go (Beyond leaf subleaf) e m = never refl e
      go MaskLacks e m = absurd m

  rises_place : (i : ℕ) → PlaceRises s i → test i ≡ true
  rises_place i h = is_true (test i) (λ e. fails_there i (here i) e (place_is i) h)

  -- no other answer is so there
  place_only : (i : ℕ) (c : RowsCompared) → rises c ≡ false → AtPlace s i c → here i ≡ c
  place_only i Rises e m = never e refl
  place_only i (NoRow leaf subleaf) e m = rw (m.in_a, m.absent, m.leaf_at_place, m.subleaf_at_place)
  place_only i (Differs leaf subleaf q) e m =
      let fails : registers_pass i ≡ false = is_false (registers_pass i) (λ e. m.fails (register_of_lem i (all_pass i e) q)) in
      let only : first i ≡ q = first_unique (passes i) (RegisterRises s i) (sound i) (whole i) q m.fails m.registers_before in
      pick_true _ _ m.in_a
      ∙ pick_true _ _ m.in_b
      ∙ pick_false _ _ fails
      ∙ (λ t. Differs (sym m.leaf_at_place t) (sym m.subleaf_at_place t) (only t))
  place_only i (Beyond leaf subleaf) e m =
      let not : w.beyond i ≡ false = is_false (w.beyond i) (λ e. m.may_not (d.allowed i e)) in
      rw (m.not_in_a, m.in_b, not, m.leaf_at_place, m.subleaf_at_place)
  place_only i MaskLacks e m = absurd m

  -- ---- the first place that fails, or the masks where none does

  abbrev found : Failing → RowsCompared
  found f = first_failing f here last

  first_means : (i : ℕ) → Lowest test 0 places i → RowsMean s (here i)
  first_means i h = go (here i) h.fails (place_is i)
    where
      reached : (c : RowsCompared) → AtPlace s i c → First s c
      reached c m = record { place = i; below = h.below; before = λ j l. place_rises j (h.before j zero-le l); there = m }

      go : (c : RowsCompared) → rises c ≡ false → AtPlace s i c → RowsMean s c
      go Rises e m = never e refl
      go (NoRow leaf subleaf) e m = reached (NoRow leaf subleaf) m
      go (Differs leaf subleaf q) e m = reached (Differs leaf subleaf q) m
      go (Beyond leaf subleaf) e m = reached (Beyond leaf subleaf) m
      go MaskLacks e m = absurd m

  last_means : AllRise s → RowsMean s last
  last_means h = go w.masks refl
    where
      go : (m : Bool) → w.masks ≡ m → RowsMean s (pick m Rises MaskLacks)
      go true e = (h, d.masked e)
      go false e = (h, λ m. never e (d.masking m))

  pub rows_mean : RowsMean s (rows_compared w A B)
  unfolding rows_compared
  rows_mean = go (lowest test 0 places) refl
    where
      go : (f : Failing) → lowest test 0 places ≡ f → RowsMean s (found f)
      go (at i) e = first_means i (lowest_at test 0 places i e)
      go none e = last_means (λ i l. place_rises i (lowest_none test 0 places e i zero-le l))

  exact_first : (c : RowsCompared) → rises c ≡ false → First s c → rows_compared w A B ≡ c
  unfolding rows_compared
  exact_first c e m = ap found (only (lowest test 0 places) refl) ∙ place_only m.place c e m.there
    where
      lowest_there : Lowest test 0 places m.place
      lowest_there = record {
        from = zero-le;
        below = m.below;
        fails = is_false (test m.place) (λ f. fails_there m.place c e m.there (place_rises m.place f));
        before = λ j _ l. rises_place j (m.before j l);
      }

      only : (f : Failing) → lowest test 0 places ≡ f → f ≡ at m.place
      only none n = never lowest_there.fails (lowest_none test 0 places n m.place zero-le m.below)
      only (at j) n = ap at (lowest_unique (lowest_at test 0 places j n) lowest_there)

  exact_last : AllRise s → rows_compared w A B ≡ last
  unfolding rows_compared
  exact_last h = ap found (lowest_all test 0 places (λ j l u. rises_place j (h j u)))

  pub rows_exact : (c : RowsCompared) → RowsMean s c → rows_compared w A B ≡ c
  rows_exact Rises m = exact_last m.0 ∙ pick_true _ _ (d.masking m.1)
  rows_exact (NoRow leaf subleaf) m = exact_first (NoRow leaf subleaf) refl m
  rows_exact (Differs leaf subleaf q) m = exact_first (Differs leaf subleaf q) refl m
  rows_exact (Beyond leaf subleaf) m = exact_first (Beyond leaf subleaf) refl m
  rows_exact MaskLacks m = exact_last m.0 ∙ pick_false _ _ (is_false w.masks (λ e. m.1 (d.masked e)))
