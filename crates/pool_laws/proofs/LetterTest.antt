-- That no feature bit of a table lies beyond another's, by the letter, as a computed test.
use Rattle.std.specs.Prelude.{◌≡◌, Bool, true, ℕ, ◌^◌, eqb}
use Rattle.std.proofs.Common.{arith, eqb-true}
use Rattle.std.specs.Int.Bits.{bit_and, bit_or}
use Rattle.bits.specs.Bits.{bit, Within}
use Rattle.bits.specs.BitsLaws.{bit_or_lem, within_of_and}
use Rattle.table.specs.declared.CpuidResults.{CpuidResults}
use Rattle.finish.specs.Kinds.{Kind}
use Rattle.finish.specs.Kinds.Kind.{feature, feature_but28, area, freed, other}
use Rattle.register_masks.specs.JoinedEntryLaws.{other_bits}
use Rattle.pool_laws.specs.ByTheLetter.{FeatureBits, NoFeatureBeyond}
use Rattle.pool_laws.specs.TableTest.{table_test, tested_mask, tested_rows}
use Rattle.pool_laws.specs.LetterTest.{bits_test, bits_within, letter_test}

pub no_feature_beyond : (t u : CpuidResults) → letter_test t u ≡ true → NoFeatureBeyond t u
no_feature_beyond t u e = record { features = tested_rows bits_test FeatureBits bits_within t u e; mask = tested_mask bits_test t u e }
