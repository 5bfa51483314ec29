-- Laws of lent memory: where it holds the masked first entries and where each stands, `finish_rows` leaves the answer of the pages.
use Rattle.std.specs.Prelude.{◌≡◌, List, ℕ, Ok}
use Rattle.std.proofs.Math.Path.{sym, ap, subst}
use Rattle.std.proofs.Common.{◌∙◌}
use Rattle.table.specs.declared.Choices.{Choices}
use Rattle.memory.specs.Origin.{finished_origins}
use Rattle.memory.specs.Memory.{rows_in}
use Rattle.finish.specs.declared.RowsBuilt.{RowsBuilt}
use Rattle.finish.specs.RowsBuilt.{built_from}
use Rattle.rows.specs.Finished.{Answered, Tried}
use Rattle.build.specs.Built.{without_origins}
use Rattle.build.specs.Build.{answer, FrontIn, InMemory}
use Rattle.build.specs.BuildLaws.{located_origins}
use Rattle.build.proofs.BuildLaws.{front_rows}
use Rattle.build.specs.InMemoryLaws.{rows_held}
use Rattle.table.specs.Verdict.{Verdict}

-- what finishing makes of them
module _ (c : Choices) (s w o : List ℕ) {v : Verdict} (k : FrontIn c s v w o) (z : v ≡ Ok tt) {x : Verdict} {w₁ o₁ : List ℕ}
    (t : Tried (built_from c.edition (rows_in w o)) w o x w₁ o₁) where
  rows_answered : built_from c.edition (rows_in w o) ≡ without_origins (answer c s)
  rows_answered = ap (built_from c.edition) (rows_held c s w o k z) ∙ sym (front_rows c s (sym k.verdict ∙ z))

  pub finished_verdict : (answer c s).verdict ≡ x
  finished_verdict = sym (t.verdict ∙ ap (λ (b : RowsBuilt). b.verdict) rows_answered)

  pub answer_in_memory : x ≡ Ok tt → InMemory (answer c s) (Ok tt) w₁ o₁
  unfolding answer
  answer_in_memory e =
      let d : Answered (without_origins (answer c s)) o x w₁ o₁ = subst (λ (b : RowsBuilt). Answered b o x w₁ o₁) rows_answered (t.accepted e) in
      record {
        verdict = sym e ∙ d.verdict;
        registers = d.table.registers;
        table = d.whole;
        origins =
            d.table.origins
            ∙ ap (finished_origins (answer c s).table.present) (k.stands z)
            ∙ located_origins (answer c s).table s;
      }
