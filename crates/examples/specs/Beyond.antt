-- That a table has no feature bit and no mask bit beyond another, as a computed test.
use Rattle.std.specs.Prelude.{◌≡◌, Bool, true, ℕ, eqb}
use Rattle.std.specs.Int.Bits.{bit_and}
use Rattle.std.proofs.Common.{eqb-true}
use Rattle.bits.specs.BitsLaws.{within_of_and}
use Rattle.table.specs.declared.CpuidResults.{CpuidResults}
use Rattle.finish.specs.Kinds.{Kind}
use Rattle.finish.specs.Kinds.Kind.{feature, feature_but28, area, freed, other}
use Rattle.register_masks.specs.Features.{FeatureWithin}
use Rattle.pool_laws.specs.PoolRight.{NoneBeyond}
use Rattle.pool_laws.specs.TableTest.{table_test, tested_mask, tested_rows}

abbrev feature_test : Kind → ℕ → ℕ → Bool
feature_test feature a b = eqb (bit_and a b) a
feature_test feature_but28 a b = eqb (bit_and a b) a
feature_test area a b = true
feature_test freed a b = true
feature_test other a b = true

feature_within : (k : Kind) (a b : ℕ) → feature_test k a b ≡ true → FeatureWithin k a b
feature_within feature a b e = within_of_and (eqb-true _ _ e)
feature_within feature_but28 a b e = within_of_and (eqb-true _ _ e)
feature_within area a b e = tt
feature_within freed a b e = tt
feature_within other a b e = tt

abbrev pub beyond_test : CpuidResults → CpuidResults → Bool
beyond_test = table_test feature_test

pub none_beyond : (t u : CpuidResults) → beyond_test t u ≡ true → NoneBeyond t u
none_beyond t u e = record { features = tested_rows feature_test FeatureWithin feature_within t u e; mask = tested_mask feature_test t u e }
