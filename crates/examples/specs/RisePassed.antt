-- The comparison of two page sets, and with it the hypothesis of demand 3, of entries that are read in one pass.
use Rattle.std.specs.Prelude.{◌≡◌, List, ℕ, Ok}
use Rattle.std.proofs.Math.Path.{ap, ap₂}
use Rattle.std.proofs.Common.{◌∙◌, subst}
use Rattle.table.specs.declared.Choices.{Choices}
use Rattle.table.specs.declared.CpuidResults.{CpuidResults}
use Rattle.table.specs.Rows.{Rows}
use Rattle.build.specs.Build.{rows_for, answer}
use Rattle.collect.specs.Lawful.{lawful_verdict}
use Rattle.rise.specs.Rise.{RiseHypothesis}
use Rattle.compare.specs.RowsCompared.{rows_compared}
use Rattle.compare.specs.declared.Compared.{Compared}
use Rattle.compare.specs.declared.Compared.TheVariants.{Rises}
use Rattle.compare.specs.Compare.{compared_rows, compared}
use Rattle.compare.specs.CompareLaws.{has_row}
use Rattle.compare.proofs.CompareLaws.{with_verdicts}
use Rattle.compare.specs.Means.{AnswerMeans}
use Rattle.compare.proofs.DecidesProof.{decides}
use Rattle.page_sets.specs.Pass.{passed_for, passed_table}
use Rattle.page_sets.specs.PassLaws.{rows_passed, table_passed}

unfoldable pub passed_compared : Choices → List ℕ → List ℕ → Compared
unfolding compared_rows rows_compared
passed_compared c a b = compared_rows (has_row (passed_table c a)) (passed_for c a) (passed_for c b)

-- where A is accepted and B lawful
module _ (c : Choices) (a b : List ℕ) (accepted : (answer c a).verdict ≡ Ok tt) (lawful : lawful_verdict b ≡ Ok tt) where
  pub compared_passed : compared c a b ≡ passed_compared c a b
  unfolding passed_compared
  compared_passed =
      with_verdicts c a b accepted lawful
      ∙ ap₂ (λ (t : CpuidResults) (A : Rows). compared_rows (has_row t) A (rows_for c b)) (table_passed c a accepted) (rows_passed c.secure_avic a)
      ∙ ap (compared_rows (has_row (passed_table c a)) (passed_for c a)) (rows_passed c.secure_avic b)

  pub rises_passed : passed_compared c a b ≡ Rises → RiseHypothesis c a b
  rises_passed e = (subst (AnswerMeans c a b) (compared_passed ∙ e) (decides c a b).means).0
