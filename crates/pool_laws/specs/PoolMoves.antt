-- A pool beside the order of servers (crates/rise/specs/Preorder.antt): what demand 3 lets a guest of one of the pool's servers do, it lets a guest
-- of the pool's table do. From the pool's table to any server of the pool, and from there to any server that this one may move to.
use Rattle.std.specs.Prelude.{◌≡◌, List, ℕ, ◌≤◌, Ok}
use Rattle.table.specs.declared.Choices.{Choices}
use Rattle.build.specs.Build.{answer}
use Rattle.rise.specs.Rise.{RiseHypothesis, TableRises}
use Rattle.pool.specs.Sets.{set_at, last_of}
use Rattle.pool.specs.Pool.{pooled}
use Rattle.pool_laws.specs.PoolRight.{pool_table}

abbrev pub PoolMoves : Type 0
PoolMoves = (c : Choices) (pages lengths : List ℕ) → (pooled c pages lengths).verdict ≡ Ok tt → (k : ℕ) → k ≤ last_of lengths
    → (s : List ℕ) → RiseHypothesis c (set_at pages lengths k) s → (answer c s).verdict ≡ Ok tt
    → TableRises (pool_table c pages lengths) (answer c s).table
