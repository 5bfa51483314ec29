-- The image of a pool's table: 9 exactly where the buffer is shorter, after the pool's refusals; every lent byte.
use Rattle.std.specs.Prelude.{◌≡◌, refl, List, ℕ, Err}
use Rattle.bits.specs.ChoiceLaws.{impossible}
use Rattle.table.specs.declared.Choices.{Choices}
use Rattle.table.specs.declared.Refusal.TheVariants.{BufferTooShort}
use Rattle.buffer.specs.WritesExactly.{FrontExactly}
use Rattle.buffer.specs.WritesExactlyProof.{front_exactly}
use Rattle.image.specs.Image.{image}
use Rattle.refusals.proofs.ExactlyProof.{builds_exactly, not_short}
use Rattle.pool.specs.Sets.{set_at}
use Rattle.pool.specs.Pool.{pooled}
use Rattle.pool.specs.WritePool.{write_pool}
use Rattle.pool_laws.specs.PoolExactly.{ServerFault}
use Rattle.pool_laws.specs.PoolExactlyProof.{pool_exactly}

-- a pool is never refused by 9: that would be a server's own
never_short : (c : Choices) (pages lengths : List ℕ) → (pooled c pages lengths).verdict ≡ Err BufferTooShort → ⊥
never_short c pages lengths e =
    let k : ℕ = (pooled c pages lengths).server in
    let f : ServerFault c pages lengths k BufferTooShort =
    (((pool_exactly c pages lengths).server BufferTooShort (λ p. impossible (cc)) (λ p. impossible (cc)) k).0 (e, refl)).1 in
    not_short c (set_at pages lengths k) (((builds_exactly c (set_at pages lengths k)).refused BufferTooShort).1 f.fault)

pub pool_writes_exactly : (c : Choices) (pages lengths buffer : List ℕ)
    → FrontExactly (pooled c pages lengths).verdict (image (pooled c pages lengths).table) buffer (write_pool c pages lengths buffer)
unfolding write_pool
pool_writes_exactly c pages lengths buffer =
    front_exactly (pooled c pages lengths).verdict (image (pooled c pages lengths).table) buffer (write_pool c pages lengths buffer) refl
    (never_short c pages lengths)
