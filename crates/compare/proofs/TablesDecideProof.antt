-- The answer means what it says, and no other answer does.
use Rattle.std.specs.Prelude.{◌≡◌, true, ℕ, ◌-◌, ◌≤◌, ◌<◌, leb, ltb}
use Rattle.std.proofs.Common.{sym, ◌∙◌, subst, arith}
use Rattle.std.proofs.Math.Path.{ap}
use Rattle.std.proofs.Math.Bool.{not}
use borrow.Author.Tests.{eqb-true, eq-eqb, leb-true, le-leb, ltb-true, lt-ltb}
use Rattle.bits.specs.ChoiceLaws.{and_left, and_right, and_both}
use Rattle.bits.specs.Bits.{has}
use Rattle.bits.specs.BitsLaws.{within_of_and, and_of_within}
use Rattle.masking.specs.Place
use Rattle.table.specs.declared.CpuidResults.{CpuidResults}
use Rattle.rise.specs.Rise.{Further, TableRises}
use Rattle.compare.specs.declared.search.Asked.TheVariants.{Tables}
use Rattle.compare.specs.declared.search.RowsCompared.{RowsCompared}
use Rattle.compare.specs.declared.search.RowsCompared.TheVariants.{Rises}
use Rattle.compare.specs.RowsCompared.{further_test, wanted_by, compared_tables}
use Rattle.compare.specs.RowsDecideProof.{Tested}
use Rattle.compare.proofs.RowsDecideProof.{rows_mean, rows_exact}
use Rattle.compare.specs.TablesMean.{tables, TablesAnswerMeans, DecidesTables}
use Rattle.compare.specs.TablesDecideProof.{at_least_test, not_true, test_at_least}

module _ (a b : CpuidResults) where
  abbrev x : ℕ
  x = a.max_extended_state

  abbrev y : ℕ
  y = b.max_extended_state

  test_further : (i : ℕ) → further_test x y i ≡ true → Further a b i
  unfolding further_test
  test_further i e =
      let low : Place.extended_state 2 ≤ i = leb-true (Place.extended_state 2) i (and_left _ _ e) in
      let e₁ = and_right (leb (Place.extended_state 2) i) _ e in
      let high : i < Place.extended_state 64 = ltb-true i (Place.extended_state 64) (and_left _ _ e₁) in
      let e₂ = and_right (ltb i (Place.extended_state 64)) _ e₁ in
      record {
        subleaf = i - Place.extended_state 0;
        place = omega arith;
        from = omega arith;
        below = omega arith;
        in_b = and_left _ _ e₂;
        not_in_a = not_true _ (and_right (has (i - Place.extended_state 0) y) _ e₂);
      }

  further_test_lem : (i : ℕ) → Further a b i → further_test x y i ≡ true
  unfolding further_test
  further_test_lem i h =
      let k : i - Place.extended_state 0 ≡ h.subleaf = omega (arith, h.place) in
      and_both (le-leb (Place.extended_state 2) i (omega (arith, h.place, h.from)))
      (and_both (lt-ltb i (Place.extended_state 64) (omega (arith, h.place, h.below)))
      (and_both (ap (λ (n : ℕ). has n y) k ∙ h.in_b) (ap (λ (n : ℕ). not (has n x)) k ∙ ap not h.not_in_a)))

  -- ---- the rows, and the masks

  tested : Tested (wanted_by (Tables x y)) (tables a b)
  tested = record {
    passed = test_at_least;
    passing = at_least_test;
    allowed = test_further;
    allowing = further_test_lem;
    masked = λ e. within_of_and (eqb-true _ _ e);
    masking = λ m. eq-eqb _ _ (and_of_within m);
  }

  means : TablesAnswerMeans a b (compared_tables a b)
  unfolding compared_tables
  means = rows_mean (wanted_by (Tables x y)) (tables a b) tested

  exact : (c : RowsCompared) → TablesAnswerMeans a b c → compared_tables a b ≡ c
  unfolding compared_tables
  exact = rows_exact (wanted_by (Tables x y)) (tables a b) tested

  -- a yes says of the places and the masks what `TableRises` says
  table_rises : TablesAnswerMeans a b Rises → TableRises a b
  table_rises (h, m) = record { rows = λ i l. (h i l).rows; registers = λ i l. (h i l).registers; others = λ i l. (h i l).others; mask = m }

  rises_table : TableRises a b → TablesAnswerMeans a b Rises
  rises_table h = (λ i l. record { rows = h.rows i l; registers = h.registers i l; others = h.others i l }, h.mask)

  pub decides : DecidesTables a b (compared_tables a b)
  decides = record {
    means = means;
    exact = exact;
    yes = λ e. table_rises (subst (TablesAnswerMeans a b) e means);
    complete = λ h. exact Rises (rises_table h);
  }

-- what a value has that is the comparison's
pub decided : (a b : CpuidResults) {r : RowsCompared} → r ≡ compared_tables a b → (r ≡ compared_tables a b) × DecidesTables a b r
decided a b e = (e, subst (DecidesTables a b) (sym e) (decides a b))
