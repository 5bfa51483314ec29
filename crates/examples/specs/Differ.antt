-- Examples: pools whose servers differ, by computation. 19 is decided over the rows that all tables have, so a further server may lift it.
use Rattle.std.specs.Prelude.{◌≡◌, List, [], ◌∷◌, ◌++◌, ℕ, Err, Ok}
use Rattle.table.specs.declared.Refusal.TheVariants.{PoolDiffers}
use Rattle.page_sets.specs.Evaluation.{first_edition}
use Rattle.page_sets.specs.PageSets.{entry, page, first_page, server_a, server_w}
use Rattle.pool.specs.Pool.{pooled}
use Rattle.examples.specs.PoolPassed.{pool_opened, pool_passed}
use Rattle.examples.specs.Pools.{two}

abbrev pub three : List ℕ
three = 8192 ∷ 8192 ∷ 8192 ∷ []

-- A with another size of D.2
unfoldable pub server_d : List ℕ
server_d =
    first_page 0x3ED83203 0x219C07A9 0x3F
    ++ page 3 (entry 0xD 0 0x7 0x340 0x340 0 ++ entry 0xD 1 0x7 0x340 0 0 ++ entry 0xD 2 0x101 0x240 0 0)

-- 19: another size of D.2, which both tables have
pub a_and_d : (pooled first_edition (server_a ++ server_d) two).verdict ≡ Err PoolDiffers
unfolding pool_opened server_a server_d
a_and_d = pool_passed first_edition (server_a ++ server_d) two

-- accepted with a third server, whose table has no D.2: one server more gives rows to a refused pool that had none, so document 02's "Joining one
-- server more .. never adds a feature bit or a row" holds only where both pools are accepted
pub a_and_d_and_w : (pooled first_edition (server_a ++ server_d ++ server_w) three).verdict ≡ Ok tt
unfolding pool_opened server_a server_d server_w
a_and_d_and_w = pool_passed first_edition (server_a ++ server_d ++ server_w) three
