-- The answer to a pool in lent memory.
use Rattle.std.specs.Prelude.{◌≡◌, refl, List, [], ℕ, replicate, Err}
use Rattle.std.proofs.Common.{subst}
use Rattle.table.specs.declared.Refusal.{Refusal}
use Rattle.table.specs.Table.{row_in}
use Rattle.memory.specs.Memory.{layout}
use Rattle.memory.specs.Held.{held_in}
use Rattle.rows.specs.AnsweredLaws.{cleared, cleared_whole}
use Rattle.pool.specs.declared.Pooled.{Pooled}
use Rattle.pool.specs.declared.PoolVerdict.{PoolVerdict}
use Rattle.pool.specs.Pool.{refused_pool}

-- the memory w, o and what goes out beside it are the answer p: every word, and count and mask, which follow from the words
pub record PoolIn (p : Pooled) (v : PoolVerdict) (w o : List ℕ) : Type 0 where
  pub verdict : v.verdict ≡ p.verdict
  pub server : v.server ≡ p.server
  pub registers : w ≡ layout (λ i. (row_in p.table i).result)
  pub origins : o ≡ p.origins
  pub table : held_in w o ≡ p.table

-- the same answer
pub pool_in : {p q : Pooled} {v : PoolVerdict} {w o : List ℕ} → p ≡ q → PoolIn p v w o → PoolIn q v w o
pool_in {p} {q} {v} {w} {o} e d = subst (λ (x : Pooled). PoolIn x v w o) e d

-- a refusal, and cleared memory
pub refused_in : (r : Refusal) (k : ℕ) {w o : List ℕ} → w ≡ replicate 352 0 → o ≡ replicate 88 0
    → PoolIn (refused_pool r k) (record { verdict = Err r; server = k }) w o
refused_in r k e f = record {
  verdict = refl;
  server = refl;
  registers = (cleared [] e f).registers;
  origins = f;
  table = cleared_whole e f;
}
