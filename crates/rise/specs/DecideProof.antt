-- The computed test of two registers is how demand 3 compares them.
use Rattle.std.specs.Prelude.{◌≡◌, refl, true, ℕ, eqb}
use Rattle.std.specs.Int.Bits.{bit_and}
use Rattle.std.proofs.Common.{eqb-true, eq-eqb}
use Rattle.bits.specs.ChoiceLaws.{and_left, and_right, and_both}
use Rattle.bits.specs.BitsLaws.{within_of_and, and_of_within}
use Rattle.finish.specs.Kinds.{Kind, EntryAtLeast}
use Rattle.finish.specs.Kinds.Kind.{feature, feature_but28, area, freed, other}
use Rattle.rise.specs.Decide.{rises_test}

pub test_rises : (k : Kind) (a b : ℕ) → rises_test k a b ≡ true → EntryAtLeast k a b
test_rises feature a b e = within_of_and (eqb-true _ _ e)
test_rises feature_but28 a b e = (within_of_and (eqb-true _ _ (and_left _ _ e)), eqb-true _ _ (and_right (eqb (bit_and a b) a) _ e))
test_rises area a b e = tt
test_rises freed a b e = tt
test_rises other a b e = eqb-true a b e

pub rises_test_lem : (k : Kind) (a b : ℕ) → EntryAtLeast k a b → rises_test k a b ≡ true
rises_test_lem feature a b h = eq-eqb _ _ (and_of_within h)
rises_test_lem feature_but28 a b h = and_both (eq-eqb _ _ (and_of_within h.0)) (eq-eqb _ _ h.1)
rises_test_lem area a b h = refl
rises_test_lem freed a b h = refl
rises_test_lem other a b h = eq-eqb a b h
