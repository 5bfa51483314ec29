-- An example of the greatest table by the letter: two servers without bit 28 of 1.EDX, which is no feature, and server A's table, which has it.
-- Its feature bits and mask lie within both servers', and so it has none beyond the pool's; with bit 28 it would not lie within.
use Rattle.std.specs.Prelude.{◌≡◌, refl, true, ◌++◌, ℕ, zero, suc, ◌≤◌, Ok}
use Rattle.std.proofs.Common.{sym, subst₂, arith, lit<}
use Rattle.bits.specs.Bits.{bit, Within}
use Rattle.masking.specs.Kept.{kept_leaves, slot}
use Rattle.masking.specs.Place
use Rattle.table.specs.declared.CpuidResults.{CpuidResults}
use Rattle.table.specs.Table.{row_in}
use Rattle.finish.specs.Kinds.{register_kinds, kinds_at}
use Rattle.finish.specs.Kinds.Kind.{feature}
use Rattle.build.specs.Build.{answer}
use Rattle.page_sets.specs.Pass.{passed_table}
use Rattle.page_sets.specs.PassLaws.{verdict_passed, table_passed}
use Rattle.page_sets.specs.Evaluation.{first_edition}
use Rattle.page_sets.specs.PageSets.{server_a}
use Rattle.pool.specs.Sets.{set_at}
use Rattle.pool.specs.Pool.{pooled}
use Rattle.pool_laws.specs.PoolRight.{server_table, pool_table, NoneBeyond}
use Rattle.pool_laws.specs.PoolProof.{pool_right}
use Rattle.pool_laws.specs.ByTheLetter.{NoFeatureBeyond}
use Rattle.pool_laws.proofs.ByTheLetterProof.{greatest_by_the_letter}
use Rattle.pool_laws.specs.LetterTest.{letter_test}
use Rattle.pool_laws.proofs.LetterTest.{no_feature_beyond}
use Rattle.examples.specs.PoolPassed.{pool_opened, pool_passed}
use Rattle.examples.specs.Pools.{two}
use Rattle.examples.specs.Bit28.{server_m}

-- ---- two servers without bit 28, and A's table

pub m_and_m : (pooled first_edition (server_m ++ server_m) two).verdict ≡ Ok tt
unfolding pool_opened server_m
m_and_m = pool_passed first_edition (server_m ++ server_m) two

a_accepted : (answer first_edition server_a).verdict ≡ Ok tt
unfolding pool_opened server_a
a_accepted = verdict_passed first_edition server_a

a_within : (k : ℕ) → k ≤ 1 → letter_test (passed_table first_edition server_a) (passed_table first_edition (set_at (server_m ++ server_m) two k)) ≡ true
unfolding pool_opened server_a server_m
a_within zero l = refl
a_within (suc zero) l = refl
a_within (suc (suc k)) l = absurd (omega arith)

a_within_each : (k : ℕ) → k ≤ 1 → NoFeatureBeyond (answer first_edition server_a).table (server_table first_edition (server_m ++ server_m) two k)
a_within_each k l =
    subst₂ NoFeatureBeyond (sym (table_passed first_edition server_a a_accepted))
    (sym (table_passed first_edition (set_at (server_m ++ server_m) two k) ((pool_right first_edition (server_m ++ server_m) two m_and_m).each k l)))
    (no_feature_beyond (passed_table first_edition server_a) (passed_table first_edition (set_at (server_m ++ server_m) two k)) (a_within k l))

pub a_has_none_beyond : NoFeatureBeyond (answer first_edition server_a).table (pool_table first_edition (server_m ++ server_m) two)
a_has_none_beyond = greatest_by_the_letter first_edition (server_m ++ server_m) two m_and_m (answer first_edition server_a).table a_within_each

-- bit 28 of 1.EDX: A has it, server M has not
a_has_28 : bit 28 (row_in (passed_table first_edition server_a) Place.version_and_features).result.edx ≡ 1
unfolding pool_opened server_a
a_has_28 = refl

m_has_no_28 : bit 28 (row_in (passed_table first_edition (set_at (server_m ++ server_m) two 0)) Place.version_and_features).result.edx ≡ 0
unfolding pool_opened server_m
m_has_no_28 = refl

edx_within : (t u : CpuidResults) → NoneBeyond t u
    → Within (row_in t Place.version_and_features).result.edx (row_in u Place.version_and_features).result.edx
unfolding kinds_at register_kinds slot kept_leaves
edx_within t u h = (h.features Place.version_and_features (lit< tt)).edx

-- so that with bit 28 A's table would not lie within
pub not_with_28 : NoneBeyond (answer first_edition server_a).table (server_table first_edition (server_m ++ server_m) two 0) → ⊥
not_with_28 h =
    let w =
    edx_within (passed_table first_edition server_a) (passed_table first_edition (set_at (server_m ++ server_m) two 0))
    (subst₂ NoneBeyond (table_passed first_edition server_a a_accepted)
    (table_passed first_edition (set_at (server_m ++ server_m) two 0) ((pool_right first_edition (server_m ++ server_m) two m_and_m).each 0 (omega arith))) h) in
    omega (arith, w.at 28, a_has_28, m_has_no_28)
