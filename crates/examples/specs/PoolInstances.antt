-- Example pools that meet the hypotheses of the pool theorems.
use Rattle.std.specs.Prelude.{◌≡◌, refl, Bool, true, false, List, [], ◌∷◌, ◌++◌, ℕ, zero, suc, ◌-◌, ◌≤◌, eqb, Ok}
use Rattle.std.proofs.Common.{sym, ap, ◌∙◌, subst, subst₂, arith, lit≤, eqb-true}
use Rattle.std.proofs.lemmas.Bool.{eqb-false}
use Rattle.bits.specs.Choice.{pick}
use Rattle.table.specs.declared.Refusal.TheVariants.{PagesLength}
use Rattle.build.specs.Build.{answer}
use Rattle.page_sets.specs.Pass.{passed_table}
use Rattle.page_sets.specs.PassLaws.{verdict_passed, table_passed}
use Rattle.page_sets.specs.Evaluation.{first_edition}
use Rattle.page_sets.specs.PageSets.{server_a, server_b, server_w}
use Rattle.rise.specs.Rise.{RiseHypothesis, TableRises}
use Rattle.examples.specs.Computed.{server_b_rises, server_b_accepted}
use Rattle.pool.specs.Sets.{set_at, lawful_sets}
use Rattle.pool.specs.Pool.{pooled}
use Rattle.pool_laws.specs.PoolRight.{server_table, pool_table, PoolRight, NoneBeyond, SetsAmong, NothingMore}
use Rattle.pool_laws.specs.PoolProof.{pool_right, greatest}
use Rattle.pool_laws.proofs.PoolProof.{one_more}
use Rattle.pool_laws.specs.PoolOrderProof.{order_free}
use Rattle.pool_laws.proofs.PoolMovesProof.{pool_moves}
use Rattle.pool_laws.specs.PoolExactly.{DifferFault, ServerFault}
use Rattle.pool_laws.specs.PoolExactlyProof.{pool_exactly}
use Rattle.examples.specs.PoolPassed.{pool_opened}
use Rattle.examples.specs.Pools.{two, a_and_w, own_refusal, own_server}
use Rattle.examples.specs.Beyond.{beyond_test, none_beyond}
use Rattle.examples.specs.Differ.{three, server_d, a_and_d, a_and_d_and_w}

-- A and W: the and of the two, rising to each
pub of_a_and_w : PoolRight first_edition (server_a ++ server_w) two
of_a_and_w = pool_right first_edition (server_a ++ server_w) two a_and_w

-- from their table to server B, by way of A
first_is_a : set_at (server_a ++ server_w) two 0 ≡ server_a
unfolding pool_opened server_a server_w
first_is_a = refl

pub of_moves : TableRises (pool_table first_edition (server_a ++ server_w) two) (answer first_edition server_b).table
of_moves =
    pool_moves first_edition (server_a ++ server_w) two a_and_w 0 (lit≤ tt) server_b
    (subst (λ (s : List ℕ). RiseHypothesis first_edition s server_b) (sym first_is_a) server_b_rises) server_b_accepted

-- A and D differ in a row that both tables have
pub of_a_and_d : DifferFault first_edition (server_a ++ server_d) two
of_a_and_d = ((pool_exactly first_edition (server_a ++ server_d) two).differs.0 a_and_d).2

-- A and W, then A, D and W: nothing is added
first_same : set_at (server_a ++ server_d ++ server_w) three 0 ≡ set_at (server_a ++ server_w) two 0
unfolding pool_opened server_a server_d server_w
first_same = refl

second_same : set_at (server_a ++ server_d ++ server_w) three 2 ≡ set_at (server_a ++ server_w) two 1
unfolding pool_opened server_a server_d server_w
second_same = refl

abbrev stands : ℕ → ℕ
stands k = pick (eqb k 0) 0 2

stands_below : (k : ℕ) → stands k ≤ 2
stands_below k = go (eqb k 0)
  where
    go : (b : Bool) → pick b 0 2 ≤ 2
    go true = lit≤ tt
    go false = lit≤ tt

stands_same : (k : ℕ) → k ≤ 1 → set_at (server_a ++ server_d ++ server_w) three (stands k) ≡ set_at (server_a ++ server_w) two k
stands_same k l = go (eqb k 0) refl
  where
    go : (b : Bool) → eqb k 0 ≡ b → set_at (server_a ++ server_d ++ server_w) three (pick b 0 2) ≡ set_at (server_a ++ server_w) two k
    go true e = first_same ∙ ap (set_at (server_a ++ server_w) two) (sym (eqb-true k 0 e))
    go false e = let n : ¬ (k ≡ 0) = eqb-false k 0 e in let q : 1 ≡ k = omega arith in second_same ∙ ap (set_at (server_a ++ server_w) two) q

pub a_w_among : SetsAmong (server_a ++ server_w) two (server_a ++ server_d ++ server_w) three
a_w_among = record { place = λ k l. stands k; below = λ k l. stands_below k; same = λ k l. stands_same k l }

pub of_one_more : NothingMore (pool_table first_edition (server_a ++ server_w) two) (pool_table first_edition (server_a ++ server_d ++ server_w) three)
of_one_more = one_more first_edition (server_a ++ server_w) two (server_a ++ server_d ++ server_w) three a_w_among a_and_w a_and_d_and_w

-- a server's own refusal, and which
pub of_own : ServerFault first_edition server_a (8192 ∷ 0 ∷ []) 1 PagesLength
of_own = (((pool_exactly first_edition server_a (8192 ∷ 0 ∷ [])).server PagesLength (λ e. impossible (cc)) (λ e. impossible (cc)) 1).0 (own_refusal, own_server)).1
  where
    impossible : {A : Type 0} → ◌≡◌ {A = ℕ} 0 1 → A
    impossible e = absurd (omega arith)

-- ---- the order beyond the first: A, D and W, and A, W and D

-- what stands at k in one order, in the other
abbrev swapped : ℕ → ℕ
swapped zero = 0
swapped (suc k) = 2 - k

swapped_below : (k : ℕ) → k ≤ 2 → swapped k ≤ 2
swapped_below zero l = lit≤ tt
swapped_below (suc k) l = omega arith

module _ (pages again : List ℕ) (first_set : set_at again three 0 ≡ set_at pages three 0) (second-set : set_at again three 2 ≡ set_at pages three 1)
    (third-set : set_at again three 1 ≡ set_at pages three 2) where
  swapped_same : (k : ℕ) → k ≤ 2 → set_at again three (swapped k) ≡ set_at pages three k
  swapped_same zero l = first_set
  swapped_same (suc zero) l = second-set
  swapped_same (suc (suc zero)) l = third-set
  swapped_same (suc (suc (suc k))) l = absurd (omega arith)

  swapped_among : SetsAmong pages three again three
  swapped_among = record { place = λ k l. swapped k; below = swapped_below; same = swapped_same }

same_sets : (set_at (server_a ++ server_w ++ server_d) three 0 ≡ set_at (server_a ++ server_d ++ server_w) three 0)
    × (set_at (server_a ++ server_w ++ server_d) three 2 ≡ set_at (server_a ++ server_d ++ server_w) three 1)
    × (set_at (server_a ++ server_w ++ server_d) three 1 ≡ set_at (server_a ++ server_d ++ server_w) three 2)
unfolding pool_opened server_a server_d server_w
same_sets = (refl, refl, refl)

both_lawful : (lawful_sets (server_a ++ server_d ++ server_w) three ≡ true) × (lawful_sets (server_a ++ server_w ++ server_d) three ≡ true)
unfolding pool_opened server_a server_d server_w
both_lawful = (refl, refl)

pub of_another_order : pooled first_edition (server_a ++ server_d ++ server_w) three ≡ pooled first_edition (server_a ++ server_w ++ server_d) three
of_another_order =
    let (a, d, w) = same_sets in
    order_free first_edition (server_a ++ server_d ++ server_w) three (server_a ++ server_w ++ server_d) three both_lawful.0 both_lawful.1 (sym a)
    (swapped_among (server_a ++ server_d ++ server_w) (server_a ++ server_w ++ server_d) a d w)
    (swapped_among (server_a ++ server_w ++ server_d) (server_a ++ server_d ++ server_w) (sym a) (sym w) (sym d))
    (λ k l. (pool_right first_edition (server_a ++ server_d ++ server_w) three a_and_d_and_w).each k (omega arith))

-- ---- W's table has none beyond A's nor its own, and so none beyond the pool's of both

w_accepted : (answer first_edition server_w).verdict ≡ Ok tt
unfolding pool_opened server_w
w_accepted = verdict_passed first_edition server_w

w_within : (k : ℕ) → k ≤ 1 → beyond_test (passed_table first_edition server_w) (passed_table first_edition (set_at (server_a ++ server_w) two k)) ≡ true
unfolding pool_opened server_a server_w
w_within zero l = refl
w_within (suc zero) l = refl
w_within (suc (suc k)) l = absurd (omega arith)

w_within_each : (k : ℕ) → k ≤ 1 → NoneBeyond (answer first_edition server_w).table (server_table first_edition (server_a ++ server_w) two k)
w_within_each k l =
    subst₂ NoneBeyond (sym (table_passed first_edition server_w w_accepted))
    (sym (table_passed first_edition (set_at (server_a ++ server_w) two k) (of_a_and_w.each k l)))
    (none_beyond (passed_table first_edition server_w) (passed_table first_edition (set_at (server_a ++ server_w) two k)) (w_within k l))

pub of_w_within : NoneBeyond (answer first_edition server_w).table (pool_table first_edition (server_a ++ server_w) two)
of_w_within = greatest first_edition (server_a ++ server_w) two a_and_w (answer first_edition server_w).table w_within_each
