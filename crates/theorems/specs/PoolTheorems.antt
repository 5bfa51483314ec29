-- One table for a pool of servers.
-- `answer chosen s` is the answer of the definition (crates/build/specs/Build.antt) to the page bytes s under what the caller chooses.
use Rattle.std.specs.Prelude.{◌≡◌, List, [], ◌∷◌, ◌++◌, ℕ, ◌+◌, Err, Ok}
use Rattle.table.specs.declared.Choices.{Choices}
use Rattle.table.specs.declared.Refusal.TheVariants.{PoolSets, PoolDiffers, UnknownEdition, PagesLength}
use Rattle.build.specs.Build.{answer, under_edition}
use Rattle.image.specs.Image.{image}
use Rattle.rise.specs.Rise.{TableRises}
use Rattle.buffer.specs.WritesExactly.{FrontExactly}
use Rattle.page_sets.specs.Evaluation.{first_edition}
use Rattle.page_sets.specs.PageSets.{server_a, server_b, server_w}
use Rattle.pool.specs.Pool.{pooled}
use Rattle.pool.specs.WritePool.{write_pool}
use Rattle.pool_laws.specs.PoolRight.{server_table, pool_table, PoolRight, NoneBeyond, Greatest, OneMore, OrderFree, NothingMore}
use Rattle.pool_laws.specs.PoolProof.{pool_right, greatest}
use Rattle.pool_laws.proofs.PoolProof.{one_more}
use Rattle.pool_laws.specs.ByTheLetter.{NoFeatureBeyond, GreatestByTheLetter, OneMoreByTheLetter}
use Rattle.pool_laws.proofs.ByTheLetterProof.{greatest_by_the_letter, one_more_by_the_letter}
use Rattle.pool_laws.specs.PoolOrderProof.{order_free}
use Rattle.pool_laws.specs.PoolMoves.{PoolMoves}
use Rattle.pool_laws.proofs.PoolMovesProof.{pool_moves}
use Rattle.pool_laws.specs.PoolExactly.{PoolExactly, ServerFault, DifferFault}
use Rattle.pool_laws.specs.PoolExactlyProof.{pool_exactly}
use Rattle.pool_laws.specs.PoolWrites.{pool_writes_exactly}
use Rattle.examples.specs.Pools
use Rattle.examples.specs.Differ
use Rattle.examples.specs.PoolInstances as PoolInstances
use Rattle.examples.specs.Bit28
use Rattle.examples.specs.Letter28

-- ---- P12, one table for a pool of servers

-- crates/register_masks/specs/Join.antt has the join and Alike.antt what 19 asks, crates/pool/specs/Sets.antt the page sets in the slice,
-- crates/pool/specs/Pool.antt the answer.

-- 18, 15, a server's own refusal with its number, 19 and the table, each if and only if its condition holds and no earlier one does; a refused pool
-- has no row. crates/pool_laws/specs/PoolExactly.antt
pub each_pool_answer_exactly : (chosen : Choices) (pages lengths : List ℕ) → PoolExactly chosen pages lengths
each_pool_answer_exactly = pool_exactly

-- an accepted pool's rows, Dh subleaves among them, are those that all tables have; its feature registers and combined mask are the and of the
-- servers'; its table rises to every server's; a row's origin is the first server's. crates/pool_laws/specs/PoolRight.antt
pub a_pool_is_the_and : (chosen : Choices) (pages lengths : List ℕ) → (pooled chosen pages lengths).verdict ≡ Ok tt → PoolRight chosen pages lengths
a_pool_is_the_and = pool_right

-- any table whose feature bits and mask every server has is within the pool's table
pub a_pool_is_the_greatest : (chosen : Choices) (pages lengths : List ℕ) → (pooled chosen pages lengths).verdict ≡ Ok tt → Greatest chosen pages lengths
a_pool_is_the_greatest = greatest

-- the same by the letter: bit 28 of 1.EDX, which is no feature, is asked of no table and said of none. Neither form follows from the other.
-- crates/pool_laws/specs/ByTheLetter.antt; `a_has_none_beyond_by_the_letter` below meets it
pub a_pool_is_the_greatest_by_the_letter : (chosen : Choices) (pages lengths : List ℕ) → (pooled chosen pages lengths).verdict ≡ Ok tt
    → GreatestByTheLetter chosen pages lengths
a_pool_is_the_greatest_by_the_letter = greatest_by_the_letter

-- one server more, or several, wherever they stand: no feature bit, no mask bit and no row is added, where both pools are accepted
pub one_server_more : OneMore
one_server_more = one_more

-- the same by the letter; `a_server_more_adds_nothing` below meets what both ask
pub one_server_more_by_the_letter : OneMoreByTheLetter
one_server_more_by_the_letter = one_more_by_the_letter

-- where a guest of one of the pool's servers may move, a guest of the pool's table may. crates/pool_laws/specs/PoolMoves.antt; `pool_to_b` meets it
pub a_pool_moves_where_its_servers_do : PoolMoves
a_pool_moves_where_its_servers_do = pool_moves

-- the order of the servers beyond the first does not matter where none is refused by itself: the whole answer is the same
pub order_of_servers_is_free : OrderFree
order_of_servers_is_free = order_free

-- the pool's image: 9 exactly where the buffer is shorter, after the pool's refusals; every lent byte
pub each_pool_write_exactly : (chosen : Choices) (pages lengths buffer : List ℕ)
    → FrontExactly (pooled chosen pages lengths).verdict (image (pooled chosen pages lengths).table) buffer (write_pool chosen pages lengths buffer)
each_pool_write_exactly = pool_writes_exactly

-- Examples: a pool of two; 18 for one set and for lengths that only wrap; 15; the second server's own 1; 19 for bit 28 of 1.EDX and for D.2, and
-- accepted with a third server that has no D.2, so that one server more gave rows to a pool that was refused; a table within both servers'; another
-- order. crates/examples
pub pool_of_a_and_w : PoolRight first_edition (server_a ++ server_w) Pools.two
pool_of_a_and_w = PoolInstances.of_a_and_w

pub one_alone_is_no_pool : (pooled (under_edition 3) server_a (8192 ∷ [])).verdict ≡ Err PoolSets
one_alone_is_no_pool = Pools.one_alone

pub lengths_do_not_wrap : (pooled first_edition (server_a ++ server_w) (0xFFFFFFFFFFFFFFFF ∷ 16385 ∷ [])).verdict ≡ Err PoolSets
lengths_do_not_wrap = Pools.wraps

pub no_such_edition_in_a_pool : (pooled (under_edition 3) server_a (8192 ∷ 0 ∷ [])).verdict ≡ Err UnknownEdition
no_such_edition_in_a_pool = Pools.unknown

pub the_second_by_itself : ServerFault first_edition server_a (8192 ∷ 0 ∷ []) 1 PagesLength
the_second_by_itself = PoolInstances.of_own

pub bit_28_is_no_feature : (pooled first_edition (server_a ++ Bit28.server_m) Pools.two).verdict ≡ Err PoolDiffers
bit_28_is_no_feature = Bit28.a_and_m

pub d_2_differs : DifferFault first_edition (server_a ++ Differ.server_d) Pools.two
d_2_differs = PoolInstances.of_a_and_d

pub a_third_server_lifts_it : (pooled first_edition (server_a ++ Differ.server_d ++ server_w) Differ.three).verdict ≡ Ok tt
a_third_server_lifts_it = Differ.a_and_d_and_w

pub a_server_more_adds_nothing :
    NothingMore (pool_table first_edition (server_a ++ server_w) Pools.two) (pool_table first_edition (server_a ++ Differ.server_d ++ server_w) Differ.three)
a_server_more_adds_nothing = PoolInstances.of_one_more

-- W's table lies within A's and its own; A, D and W pool as A, W and D do
pub w_has_none_beyond_the_pool : NoneBeyond (answer first_edition server_w).table (pool_table first_edition (server_a ++ server_w) Pools.two)
w_has_none_beyond_the_pool = PoolInstances.of_w_within

-- from the pool's table to server B, by way of A
pub pool_to_b : TableRises (pool_table first_edition (server_a ++ server_w) Pools.two) (answer first_edition server_b).table
pool_to_b = PoolInstances.of_moves

-- A's table, which has bit 28 of 1.EDX, beside two servers that have not: no feature bit of it lies beyond theirs, nor beyond their pool's; with bit
-- 28 it does not lie within. crates/examples/specs/Letter28.antt
pub a_has_none_beyond_by_the_letter : NoFeatureBeyond (answer first_edition server_a).table (pool_table first_edition (Bit28.server_m ++ Bit28.server_m) Pools.two)
a_has_none_beyond_by_the_letter = Letter28.a_has_none_beyond

pub a_lies_beyond_with_bit_28 : NoneBeyond (answer first_edition server_a).table (server_table first_edition (Bit28.server_m ++ Bit28.server_m) Pools.two 0) → ⊥
a_lies_beyond_with_bit_28 = Letter28.not_with_28

pub d_and_w_change_places :
    pooled first_edition (server_a ++ Differ.server_d ++ server_w) Differ.three ≡ pooled first_edition (server_a ++ server_w ++ Differ.server_d) Differ.three
d_and_w_change_places = PoolInstances.of_another_order
