-- That no feature bit of a table lies beyond another's, by the letter, as a computed test.
use Rattle.std.specs.Prelude.{◌≡◌, Bool, true, ℕ, ◌^◌, eqb}
use Rattle.std.proofs.Common.{arith, eqb-true}
use Rattle.std.specs.Int.Bits.{bit_and, bit_or}
use Rattle.bits.specs.Bits.{bit, Within}
use Rattle.bits.specs.BitsLaws.{bit_or_lem, within_of_and}
use Rattle.table.specs.declared.CpuidResults.{CpuidResults}
use Rattle.finish.specs.Kinds.{Kind}
use Rattle.finish.specs.Kinds.Kind.{feature, feature_but28, area, freed, other}
use Rattle.register_masks.specs.JoinedEntryLaws.{other_bits}
use Rattle.pool_laws.specs.ByTheLetter.{FeatureBits, NoFeatureBeyond}
use Rattle.pool_laws.specs.TableTest.{table_test, tested_mask, tested_rows}

abbrev pub bits_test : Kind → ℕ → ℕ → Bool
bits_test feature a b = eqb (bit_and a b) a
bits_test feature_but28 a b = eqb (bit_and a (bit_or b (2 ^ 28))) a
bits_test area a b = true
bits_test freed a b = true
bits_test other a b = true

pub bits_within : (k : Kind) (a b : ℕ) → bits_test k a b ≡ true → FeatureBits k a b
bits_within feature a b e = within_of_and (eqb-true _ _ e)
bits_within feature_but28 a b e =
    let w : Within a (bit_or b (2 ^ 28)) = within_of_and (eqb-true _ _ e) in
    record { at = λ k n. omega (arith, w.at k, bit_or_lem k b (2 ^ 28), other_bits k n) }
bits_within area a b e = tt
bits_within freed a b e = tt
bits_within other a b e = tt

abbrev pub letter_test : CpuidResults → CpuidResults → Bool
letter_test = table_test bits_test
