-- The paper's equations, register by register, determine the table of an accepted page set.
use Rattle.std.specs.Prelude.{◌≡◌, refl, List, [], ◌∷◌, map, ◌↔◌, ℕ, Ok}
use Rattle.std.proofs.Common.{sym, ap, ◌∙◌, subst}
use Rattle.x86defs.specs.declared.CpuidResult.{CpuidResult}
use Rattle.table.specs.declared.Choices.{Choices}
use Rattle.table.specs.declared.CpuidResults.{CpuidResults}
use Rattle.build.specs.Build.{answer}
use Rattle.letter.specs.Paper.{Line, Equations, lines_of, combined_of, table_with}
use Rattle.letter.proofs.TableProof.{table_by_figures}
use Rattle.letter.specs.DeterminedProof.{column, results_same}

module _ (chosen : Choices) (s : List ℕ) where
  holds : Equations chosen s (table_with (combined_of chosen s) (lines_of chosen s))
  holds = record {
    present = refl;
    eax = column (λ r. r.eax) (lines_of chosen s);
    ebx = column (λ r. r.ebx) (lines_of chosen s);
    ecx = column (λ r. r.ecx) (lines_of chosen s);
    edx = column (λ r. r.edx) (lines_of chosen s);
    rows = refl;
    mask = refl;
  }

  whole : (t : CpuidResults) → Equations chosen s t → t ≡ table_with (combined_of chosen s) (lines_of chosen s)
  whole t e =
      let same : t.results ≡ map (λ (l : Line). l.row.result) (lines_of chosen s) =
      results_same t.results (map (λ (l : Line). l.row.result) (lines_of chosen s)) (e.eax ∙ sym holds.eax) (e.ebx ∙ sym holds.ebx)
      (e.ecx ∙ sym holds.ecx) (e.edx ∙ sym holds.edx) in
      λ k. record { present = e.present k; results = same k; row_count = e.rows k; max_extended_state = e.mask k }

  pub determined : (answer chosen s).verdict ≡ Ok tt → (t : CpuidResults) → Equations chosen s t ↔ (t ≡ (answer chosen s).table)
  determined a t = (
    λ e. whole t e ∙ sym (table_by_figures chosen s a),
    λ q. subst (Equations chosen s) (sym (q ∙ table_by_figures chosen s a)) holds,
  )
