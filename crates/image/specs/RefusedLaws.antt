-- What is written of pages that building refuses: the refusal, and the buffer as it was.
use Rattle.std.specs.Prelude.{◌≡◌, List, ℕ, Err}
use Rattle.std.proofs.Common.{ap}
use Rattle.table.specs.declared.Choices.{Choices}
use Rattle.table.specs.declared.Refusal.{Refusal}
use Rattle.table.specs.Verdict.{Verdict}
use Rattle.build.specs.Build.{InMemory, answer}
use Rattle.buffer.specs.Front.{AfterWrite}
use Rattle.buffer.specs.Written.{Written}
use Rattle.buffer.specs.VerdictLaws.{verdict_refused}
use Rattle.image.specs.Image.{image}
use Rattle.image.specs.Write.{write}

module _ (chosen : Choices) (s buffer : List ℕ) {v : Verdict} {w o : List ℕ} {r : Refusal} where
  pub refused_answer : InMemory (answer chosen s) v w o → v ≡ Err r → ◌≡◌ {A = Written} (Err r) (write chosen s buffer).answer
  unfolding write
  refused_answer k e = ap (λ (x : AfterWrite). x.answer) (verdict_refused (image (answer chosen s).table) buffer k.verdict e)

  pub refused_buffer : InMemory (answer chosen s) v w o → v ≡ Err r → buffer ≡ (write chosen s buffer).buffer
  unfolding write
  refused_buffer k e = ap (λ (x : AfterWrite). x.buffer) (verdict_refused (image (answer chosen s).table) buffer k.verdict e)
