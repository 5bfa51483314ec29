-- A pool's table is the greatest by the letter, and a server more adds nothing, as ByTheLetter.antt says.
use Rattle.std.specs.Prelude.{◌≡◌, List, ℕ, zero, suc, ◌≤◌, Ok}
use Rattle.std.proofs.Common.{sym, le_refl, arith}
use Rattle.bits.specs.Bits.{bit}
use Rattle.bits.specs.BitsLaws.{bit_and_lem, within_trans, within_eq}
use Rattle.x86defs.specs.declared.CpuidResult.{CpuidResult}
use Rattle.table.specs.declared.Choices.{Choices}
use Rattle.table.specs.declared.CpuidResults.{CpuidResults}
use Rattle.table.specs.Table.{row_in}
use Rattle.finish.specs.Kinds.{Kind, Kinds, Registers, kinds_at}
use Rattle.finish.specs.Kinds.Kind.{feature, feature_but28, area, freed, other}
use Rattle.register_masks.specs.Join.{and_to}
use Rattle.register_masks.specs.Features.{FeatureIs, FeaturesAre, FeatureWithin}
use Rattle.register_masks.specs.RegisterRunLaws.{and_to_greatest}
use Rattle.pool.specs.Sets.{last_of}
use Rattle.pool.specs.Pool.{pooled}
use Rattle.pool_laws.specs.PoolRight.{server_table, pool_table, PoolRight, NoneBeyond, NothingMore}
use Rattle.pool_laws.specs.PoolProof.{pool_right}
use Rattle.pool_laws.proofs.PoolProof.{one_more}
use Rattle.pool_laws.specs.ByTheLetter.{FeatureBits, NoFeatureBeyond, GreatestByTheLetter, OneMoreByTheLetter}
use Rattle.pool_laws.specs.ByTheLetterProof.{all_greatest, by_the_letter}

pub greatest_by_the_letter : (c : Choices) (pages lengths : List ℕ) → (pooled c pages lengths).verdict ≡ Ok tt → GreatestByTheLetter c pages lengths
greatest_by_the_letter c pages lengths accepted t h =
    let r : PoolRight c pages lengths = pool_right c pages lengths accepted in
    record {
      features = λ i l.
          all_greatest (kinds_at i) _ _ (λ k. (row_in (server_table c pages lengths k) i).result) (last_of lengths) (r.features i l)
          (λ k u. (h k u).features i l);
      mask = within_trans (and_to_greatest _ (last_of lengths) (λ k u. (h k u).mask)) (within_eq (sym r.mask));
    }

pub one_more_by_the_letter : OneMoreByTheLetter
one_more_by_the_letter c pages lengths more moreLengths m ok ok₂ =
    let n : NothingMore (pool_table c pages lengths) (pool_table c more moreLengths) = one_more c pages lengths more moreLengths m ok ok₂ in
    (by_the_letter _ _ n.beyond, n.rows)
