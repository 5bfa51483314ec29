-- The answer means what it says, and no other answer does.
use Rattle.std.specs.Prelude.{◌≡◌, refl, Bool, true, false, ℕ}
use Rattle.std.proofs.Common.{sym}
use Rattle.std.proofs.Math.Bool.{not}
use borrow.Author.Tests.{eqb-true, eq-eqb, leb-true, le-leb}
use Rattle.finish.specs.Kinds.{Kind, TableAtLeast}
use Rattle.finish.specs.Kinds.Kind.{feature, feature_but28, area, freed, other}
use Rattle.rise.specs.DecideProof.{test_rises, rises_test_lem}
use Rattle.compare.specs.RowsCompared.{table_test}

-- ---- a register

pub test_at_least : (k : Kind) (a b : ℕ) → table_test k a b ≡ true → TableAtLeast k a b
test_at_least feature a b e = test_rises feature a b e
test_at_least feature_but28 a b e = test_rises feature_but28 a b e
test_at_least area a b e = leb-true a b e
test_at_least freed a b e = eqb-true a b e
test_at_least other a b e = eqb-true a b e

pub at_least_test : (k : Kind) (a b : ℕ) → TableAtLeast k a b → table_test k a b ≡ true
at_least_test feature a b h = rises_test_lem feature a b h
at_least_test feature_but28 a b h = rises_test_lem feature_but28 a b h
at_least_test area a b h = le-leb a b h
at_least_test freed a b h = eq-eqb a b h
at_least_test other a b h = eq-eqb a b h

-- ---- a row too many

pub not_true : (b : Bool) → not b ≡ true → b ≡ false
not_true true e = sym e
not_true false e = refl
