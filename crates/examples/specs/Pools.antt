-- Examples: pools of whole page sets, their answers by computation.
use Rattle.std.specs.Prelude.{◌≡◌, List, [], ◌∷◌, ◌++◌, ℕ, Err, Ok}
use Rattle.table.specs.declared.Refusal.TheVariants.{PagesLength, UnknownEdition, PoolSets}
use Rattle.build.specs.Build.{under_edition}
use Rattle.page_sets.specs.Evaluation.{first_edition}
use Rattle.page_sets.specs.PageSets.{server_a, server_w}
use Rattle.pool.specs.Pool.{pooled}
use Rattle.examples.specs.PoolPassed.{pool_opened, pool_passed, server_passed}

abbrev pub two : List ℕ
two = 8192 ∷ 8192 ∷ []

-- accepted: two servers, the first with more features; its D.2 is not in the pool's table
pub a_and_w : (pooled first_edition (server_a ++ server_w) two).verdict ≡ Ok tt
unfolding pool_opened server_a server_w
a_and_w = pool_passed first_edition (server_a ++ server_w) two

-- 18, before 15: one set; lengths that only wrap to the slice's
pub one_alone : (pooled (under_edition 3) server_a (8192 ∷ [])).verdict ≡ Err PoolSets
unfolding pool_opened server_a
one_alone = pool_passed (under_edition 3) server_a (8192 ∷ [])

pub wraps : (pooled first_edition (server_a ++ server_w) (0xFFFFFFFFFFFFFFFF ∷ 16385 ∷ [])).verdict ≡ Err PoolSets
unfolding pool_opened server_a server_w
wraps = pool_passed first_edition (server_a ++ server_w) (0xFFFFFFFFFFFFFFFF ∷ 16385 ∷ [])

-- 15, before a server's own 1
pub unknown : (pooled (under_edition 3) server_a (8192 ∷ 0 ∷ [])).verdict ≡ Err UnknownEdition
unfolding pool_opened server_a
unknown = pool_passed (under_edition 3) server_a (8192 ∷ 0 ∷ [])

-- a server's own refusal, with its number: the second set is of length 0
pub own_refusal : (pooled first_edition server_a (8192 ∷ 0 ∷ [])).verdict ≡ Err PagesLength
unfolding pool_opened server_a
own_refusal = pool_passed first_edition server_a (8192 ∷ 0 ∷ [])

pub own_server : (pooled first_edition server_a (8192 ∷ 0 ∷ [])).server ≡ 1
unfolding pool_opened server_a
own_server = server_passed first_edition server_a (8192 ∷ 0 ∷ [])
