-- The answer means what it says, and no other answer does.
use Rattle.std.specs.Prelude.{◌≡◌, true, ◌&&◌, List, ℕ, Err, Ok}
use Rattle.std.proofs.Math.Path.{refl, ap}
use Rattle.std.proofs.Common.{sym, ◌∙◌, subst, inr}
use Rattle.bits.specs.ChoiceLaws.{and_left, and_right, and_both}
use Rattle.table.specs.declared.Choices.{Choices}
use Rattle.finish.specs.Finish.{rule_at}
use Rattle.finish.specs.Kinds.{from_entry}
use Rattle.build.specs.Build.{rows_for, answer}
use Rattle.collect.specs.Lawful.{lawful_verdict}
use Rattle.rise.specs.Rise.{EntryRises, RiseHypothesis as Hypothesis}
use Rattle.rise.specs.Decide.{in_table}
use Rattle.rise.specs.DecideProof.{test_rises, rises_test_lem}
use Rattle.rise.proofs.RiseProof.{demand_3}
use Rattle.compare.specs.declared.search.Asked.TheVariants.{Entries}
use Rattle.compare.specs.declared.search.RowsCompared.{RowsCompared}
use Rattle.compare.specs.declared.search.RowsCompared.TheVariants.{Rises as RowsRise, NoRow, Differs as RowDiffers, Beyond, MaskLacks}
use Rattle.compare.specs.RowsCompared.{wanted_by, rows_compared}
use Rattle.compare.specs.RowsMean.{AllRise, RowsMean}
use Rattle.compare.specs.RowsDecideProof.{Tested}
use Rattle.compare.proofs.RowsDecideProof.{rows_mean, rows_exact}
use Rattle.compare.specs.declared.Compared.{Compared}
use Rattle.compare.specs.declared.Compared.TheVariants.{Rises, RefusedA, UnlawfulB, NoEntry, Differs}
use Rattle.compare.specs.Compare.{entries_named, after_a, after_b, compared_rows, compared}
use Rattle.compare.proofs.CompareLaws.{with_verdicts, refused_a}
use Rattle.compare.specs.Means.{Stand, servers, AnswerMeans, Decides}
use Rattle.table.specs.Verdict.{Verdict}

module _ (chosen : Choices) (a b : List ℕ) where
  tested : Tested (wanted_by Entries) (servers chosen a b)
  tested = record { passed = test_rises; passing = rises_test_lem; allowed = λ i e. tt; allowing = λ i u. refl; masked = λ e. tt; masking = λ u. refl }

  -- ---- the hypothesis, as the rows have it

  all_rise : Stand chosen a b → AllRise (servers chosen a b) → Hypothesis chosen a b
  all_rise s h = record {
    accepted = s.accepted;
    lawful = s.lawful;
    entries = λ i l f p. record { present = (h i l).rows (and_both f p); registers = (h i l).registers (and_both f p) };
  }

  rise_all : Hypothesis chosen a b → AllRise (servers chosen a b)
  rise_all h i l =
      let entry : (from_entry (rule_at i) && in_table chosen a i) ≡ true → EntryRises i (rows_for chosen a i) (rows_for chosen b i) =
      λ p. h.entries i l (and_left _ _ p) (and_right (from_entry (rule_at i)) _ p) in
      record { rows = λ p. (entry p).present; registers = λ p. (entry p).registers; others = λ _. inr tt }

  -- ---- the answer

  abbrev rows : RowsCompared
  rows = rows_compared (wanted_by Entries) (servers chosen a b).A (servers chosen a b).B

  named_means : Stand chosen a b → (c : RowsCompared) → RowsMean (servers chosen a b) c → AnswerMeans chosen a b (entries_named c)
  named_means s RowsRise m = let h = all_rise s m.0 in (h, demand_3 chosen a b h)
  named_means s (NoRow leaf subleaf) m = (s, m)
  named_means s (RowDiffers leaf subleaf register) m = (s, m)
  named_means s (Beyond leaf subleaf) m = absurd (m.there.may_not tt)
  named_means s MaskLacks m = absurd (m.1 tt)

  means : AnswerMeans chosen a b (compared chosen a b)
  unfolding compared compared_rows
  means = go (answer chosen a).verdict refl (lawful_verdict b) refl
    where
      go : (v : Verdict) → (answer chosen a).verdict ≡ v → (w : Verdict) → lawful_verdict b ≡ w
          → AnswerMeans chosen a b (after_a v (after_b w (compared_rows (in_table chosen a) (rows_for chosen a) (rows_for chosen b))))
      go (Err r) e w f = e
      go (Ok _) e (Err r) f = (e, f)
      go (Ok _) e (Ok _) f =
          named_means (record { accepted = e; lawful = f }) rows (rows_mean (wanted_by Entries) (servers chosen a b) tested)

  -- where the rows are as an answer of theirs says
  compared_by : Stand chosen a b → (c : RowsCompared) → RowsMean (servers chosen a b) c → compared chosen a b ≡ entries_named c
  unfolding compared_rows
  compared_by s c m =
      with_verdicts chosen a b s.accepted s.lawful ∙ ap entries_named (rows_exact (wanted_by Entries) (servers chosen a b) tested c m)

  complete : Hypothesis chosen a b → compared chosen a b ≡ Rises
  complete h = compared_by (record { accepted = h.accepted; lawful = h.lawful }) RowsRise (rise_all h, tt)

  exact : (c : Compared) → AnswerMeans chosen a b c → compared chosen a b ≡ c
  exact Rises m = complete m.0
  exact (RefusedA r) m = sym (refused_a chosen a b m)
  exact (UnlawfulB r) m = with_verdicts chosen a b m.0 m.1
  exact (NoEntry leaf subleaf) m = compared_by m.0 (NoRow leaf subleaf) m.1
  exact (Differs leaf subleaf register) m = compared_by m.0 (RowDiffers leaf subleaf register) m.1

  pub decides : Decides chosen a b (compared chosen a b)
  decides = record { means = means; exact = exact; complete = complete }

-- what a value has that is the comparison's
pub decided : (chosen : Choices) (a b : List ℕ) {r : Compared} → r ≡ compared chosen a b → (r ≡ compared chosen a b) × Decides chosen a b r
decided chosen a b e = (e, subst (Decides chosen a b) (sym e) (decides chosen a b))
