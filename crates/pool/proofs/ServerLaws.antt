-- One server, one case for each return of the function.
use Rattle.std.specs.Prelude.{◌≡◌, List, ℕ, Err, Ok, Result}
use Rattle.std.proofs.Math.Path.{sym, ap}
use Rattle.std.proofs.Common.{◌∙◌, arith}
use Rattle.table.specs.declared.Choices.{Choices}
use Rattle.table.specs.declared.Refusal.{Refusal}
use Rattle.memory.specs.Memory.{rows_in, Cleared}
use Rattle.finish.specs.declared.RowsBuilt.{RowsBuilt}
use Rattle.finish.specs.RowsBuilt.{built_from}
use Rattle.rows.specs.Checked.{checked_rows, verdict_of}
use Rattle.rows.specs.CheckedLaws.{verdict_of_lem}
use Rattle.build.specs.Build.{answer, FrontIn}
use Rattle.build.proofs.BuildLaws.{front_rows, front_refused}
use Rattle.build.specs.InMemoryLaws.{rows_held}
use Rattle.pool.specs.Server.{ServerIn}
use Rattle.rows.specs.declared.checked.Checked.{Checked}
use Rattle.table.specs.Verdict.{Verdict}

module _ (c : Choices) (s w o : List ℕ) where
  pub refused_with : {r : Refusal} → (answer c s).verdict ≡ Err r → Cleared w o → ServerIn c s (Err r) w o
  refused_with e z = record { verdict = sym e; registers = λ a. cc; stands = λ a. cc; refused = λ _ _. z }

  module _ {v : Verdict} (k : FrontIn c s v w o) where
    pub server_front : {r : Refusal} → v ≡ Err r → ServerIn c s (Err r) w o
    server_front e = refused_with (front_refused c s (sym k.verdict ∙ e)) (k.refused _ e)

    -- x is what the checks give of the rows
    module _ (z : v ≡ Ok tt) {x : Result Checked Refusal} (e : x ≡ checked_rows (rows_in w o)) where
      pub judged : (answer c s).verdict ≡ verdict_of x
      unfolding checked_rows built_from
      judged =
          ap (λ (b : RowsBuilt). b.verdict) (front_rows c s (sym k.verdict ∙ z) ∙ ap (built_from c.edition) (sym (rows_held c s w o k z)))
          ∙ sym (ap verdict_of e ∙ verdict_of_lem _ (rows_in w o))

      pub server_accepted : {mask size n : ℕ} → x ≡ Ok (record { mask = mask; size = size; processors = n }) → ServerIn c s (Ok tt) w o
      server_accepted g = record {
        verdict = sym (judged ∙ ap verdict_of g);
        registers = λ _. k.registers z;
        stands = λ _. k.stands z;
        refused = λ r h. absurd (let z : ◌≡◌ {A = ℕ} 0 1 = cc in omega arith);
      }

-- the checks refuse the rows, and the memory is cleared then
pub server_refused : (c : Choices) (s w o : List ℕ) {v : Verdict} → FrontIn c s v w o → v ≡ Ok tt → {x : Result Checked Refusal} → x ≡ checked_rows (rows_in w o)
    → {r : Refusal} {w₁ o₁ : List ℕ} → x ≡ Err r → Cleared w₁ o₁ → ServerIn c s (Err r) w₁ o₁
server_refused c s w o k z e {r} {w₁} {o₁} g d = refused_with c s w₁ o₁ (judged c s w o k z e ∙ ap verdict_of g) d
