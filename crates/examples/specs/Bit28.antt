-- Examples: two servers that differ in bit 28 of 1.EDX alone, by computation.
use Rattle.std.specs.Prelude.{◌≡◌, List, ◌++◌, ℕ, Err}
use Rattle.table.specs.declared.Refusal.TheVariants.{PoolDiffers}
use Rattle.page_sets.specs.Evaluation.{first_edition}
use Rattle.page_sets.specs.PageSets.{entry, page, required_entries, server_a}
use Rattle.pool.specs.Pool.{pooled}
use Rattle.examples.specs.PoolPassed.{pool_opened, pool_passed}
use Rattle.examples.specs.Pools.{two}

-- A without bit 28 of 1.EDX in its first entry of leaf 1
unfoldable pub server_m : List ℕ
server_m =
    page 23 (entry 1 0 0xA00F11 0x10000 0x3ED83203 0x078BFBFF ++ required_entries 0x3ED83203 0x219C07A9 0x3F)
    ++ page 3 (entry 0xD 0 0x7 0x340 0x340 0 ++ entry 0xD 1 0x7 0x340 0 0 ++ entry 0xD 2 0x100 0x240 0 0)

-- 19: bit 28 of 1.EDX, which is no feature
pub a_and_m : (pooled first_edition (server_a ++ server_m) two).verdict ≡ Err PoolDiffers
unfolding pool_opened server_a server_m
a_and_m = pool_passed first_edition (server_a ++ server_m) two
