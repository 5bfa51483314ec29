-- What is written of a refused pool: the refusal, and the buffer as it was.
use Rattle.std.specs.Prelude.{◌≡◌, List, ℕ, Err}
use Rattle.std.proofs.Common.{ap}
use Rattle.table.specs.declared.Choices.{Choices}
use Rattle.table.specs.declared.Refusal.{Refusal}
use Rattle.table.specs.Verdict.{Verdict}
use Rattle.buffer.specs.Front.{AfterWrite}
use Rattle.buffer.specs.Written.{Written}
use Rattle.buffer.specs.VerdictLaws.{verdict_refused}
use Rattle.image.specs.Image.{image}
use Rattle.pool.specs.Pool.{pooled}
use Rattle.pool.specs.WritePool.{write_pool}

module _ (c : Choices) (pages lengths buffer : List ℕ) {v : Verdict} {r : Refusal} where
  pub refused_answer : v ≡ (pooled c pages lengths).verdict → v ≡ Err r → ◌≡◌ {A = Written} (Err r) (write_pool c pages lengths buffer).answer
  unfolding write_pool
  refused_answer k e = ap (λ (x : AfterWrite). x.answer) (verdict_refused (image (pooled c pages lengths).table) buffer k e)

  pub refused_buffer : v ≡ (pooled c pages lengths).verdict → v ≡ Err r → buffer ≡ (write_pool c pages lengths buffer).buffer
  unfolding write_pool
  refused_buffer k e = ap (λ (x : AfterWrite). x.buffer) (verdict_refused (image (pooled c pages lengths).table) buffer k e)
