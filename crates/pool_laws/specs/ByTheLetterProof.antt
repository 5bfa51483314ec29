-- A pool's table is the greatest by the letter, and a server more adds nothing, as ByTheLetter.antt says.
use Rattle.std.specs.Prelude.{◌≡◌, List, ℕ, zero, suc, ◌≤◌}
use Rattle.std.proofs.Common.{sym, le_refl, arith}
use Rattle.bits.specs.Bits.{bit}
use Rattle.bits.specs.BitsLaws.{bit_and_lem, within_trans, within_eq}
use Rattle.x86defs.specs.declared.CpuidResult.{CpuidResult}
use Rattle.table.specs.declared.Choices.{Choices}
use Rattle.table.specs.declared.CpuidResults.{CpuidResults}
use Rattle.table.specs.Table.{row_in}
use Rattle.finish.specs.Kinds.{Kind, Kinds, Registers, kinds_at}
use Rattle.finish.specs.Kinds.Kind.{feature, feature_but28, area, freed, other}
use Rattle.register_masks.specs.Join.{and_to}
use Rattle.register_masks.specs.Features.{FeatureIs, FeaturesAre, FeatureWithin}
use Rattle.register_masks.specs.RegisterRunLaws.{and_to_greatest}
use Rattle.pool.specs.Sets.{last_of}
use Rattle.pool.specs.Pool.{pooled}
use Rattle.pool_laws.specs.PoolRight.{server_table, pool_table, PoolRight, NoneBeyond, NothingMore}
use Rattle.pool_laws.specs.PoolProof.{pool_right}
use Rattle.pool_laws.specs.ByTheLetter.{FeatureBits, NoFeatureBeyond, GreatestByTheLetter, OneMoreByTheLetter}

-- ---- the statements

-- ---- the proofs

-- of one bit: what is at most each is at most the and
and_to_bit : (y k : ℕ) (x : ℕ → ℕ) (n : ℕ) → ((j : ℕ) → j ≤ n → y ≤ bit k (x j)) → y ≤ bit k (and_to x n)
unfolding and_to
and_to_bit y k x zero h = h 0 (le_refl 0)
and_to_bit y k x (suc n) h =
    let a : y ≤ bit k (and_to x n) = and_to_bit y k x n (λ j l. h j (omega arith)) in
    omega (arith, bit_and_lem k (and_to x n) (x (suc n)), a, h (suc n) (le_refl (suc n)))

is_greatest : (k : Kind) (y z : ℕ) (x : ℕ → ℕ) (n : ℕ) → FeatureIs k z x n → ((j : ℕ) → j ≤ n → FeatureBits k y (x j)) → FeatureBits k y z
is_greatest feature y z x n e h = within_trans (and_to_greatest x n h) (within_eq (sym e))
is_greatest feature_but28 y z x n e h = record { at = λ k c. rw e (and_to_bit (bit k y) k x n (λ j l. (h j l).at k c)) }
is_greatest area y z x n e h = tt
is_greatest freed y z x n e h = tt
is_greatest other y z x n e h = tt

pub all_greatest : (k : Kinds) (y z : CpuidResult) (x : ℕ → CpuidResult) (n : ℕ) → FeaturesAre k z x n
    → ((j : ℕ) → j ≤ n → Registers FeatureBits k y (x j)) → Registers FeatureBits k y z
all_greatest k y z x n e h = record {
  eax = is_greatest k.eax _ _ (λ j. (x j).eax) n e.eax (λ j l. (h j l).eax);
  ebx = is_greatest k.ebx _ _ (λ j. (x j).ebx) n e.ebx (λ j l. (h j l).ebx);
  ecx = is_greatest k.ecx _ _ (λ j. (x j).ecx) n e.ecx (λ j l. (h j l).ecx);
  edx = is_greatest k.edx _ _ (λ j. (x j).edx) n e.edx (λ j l. (h j l).edx);
}

-- 1.EDX whole says more
bits_of : (k : Kind) (a b : ℕ) → FeatureWithin k a b → FeatureBits k a b
bits_of feature a b h = h
bits_of feature_but28 a b h = record { at = λ k c. h.at k }
bits_of area a b h = tt
bits_of freed a b h = tt
bits_of other a b h = tt

pub by_the_letter : (t u : CpuidResults) → NoneBeyond t u → NoFeatureBeyond t u
by_the_letter t u h = record {
  features = λ i l.
      let r = h.features i l in
      record {
        eax = bits_of (kinds_at i).eax _ _ r.eax;
        ebx = bits_of (kinds_at i).ebx _ _ r.ebx;
        ecx = bits_of (kinds_at i).ecx _ _ r.ecx;
        edx = bits_of (kinds_at i).edx _ _ r.edx;
      };
  mask = h.mask;
}
