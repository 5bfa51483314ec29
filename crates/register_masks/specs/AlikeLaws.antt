-- The computed test of 19 says what its words say.
use Rattle.std.specs.Prelude.{◌≡◌, Bool, ℕ, zero, suc, ◌<◌}
use Rattle.std.proofs.Math.Path.{refl}
use Rattle.std.proofs.Common.{sym, arith, eqb-true, eq-eqb}
use Rattle.std.proofs.Math.Bool.{true, false}
use Rattle.bits.specs.Choice.{pick}
use Rattle.bits.specs.ChoiceLaws.{and_both, if_holds}
use Rattle.bits.specs.Search.{every}
use Rattle.bits.specs.SearchLaws.{every_at}
use Rattle.bits.specs.Bits.{bit}
use Rattle.x86defs.specs.declared.CpuidResult.{CpuidResult}
use Rattle.masking.specs.Kept.{places}
use Rattle.table.specs.Rows.{Rows}
use Rattle.finish.specs.Kinds.{Kind, Kinds, Registers, kinds_at}
use Rattle.finish.specs.Kinds.Kind.{feature, feature_but28, area, freed, other}
use Rattle.finish.specs.RegisterTestLaws.{registers_hold, registers_tested}
use Rattle.register_masks.specs.Alike.{Alike, alike_test, registers_alike, all_have, alike_to, all_alike, AlikeAt, AllAlike}
use Rattle.register_masks.specs.RegisterRunLaws.{all_at, all_of}

test_alike : (k : Kind) (a b : ℕ) → alike_test k a b ≡ true → Alike k a b
test_alike feature a b e = tt
test_alike feature_but28 a b e = eqb-true (bit 28 a) (bit 28 b) e
test_alike area a b e = tt
test_alike freed a b e = tt
test_alike other a b e = eqb-true a b e

alike_test_lem : (k : Kind) (a b : ℕ) → Alike k a b → alike_test k a b ≡ true
alike_test_lem feature a b h = refl
alike_test_lem feature_but28 a b h = eq-eqb (bit 28 a) (bit 28 b) h
alike_test_lem area a b h = refl
alike_test_lem freed a b h = refl
alike_test_lem other a b h = eq-eqb a b h

pub test_registers : (k : Kinds) (a b : CpuidResult) → registers_alike k a b ≡ true → Registers Alike k a b
test_registers = registers_hold alike_test Alike test_alike

pub registers_test : (k : Kinds) (a b : CpuidResult) → Registers Alike k a b → registers_alike k a b ≡ true
registers_test = registers_tested alike_test Alike alike_test_lem

-- two tests that imply each other
pub same_truth : (p q : Bool) → (p ≡ true → q ≡ true) → (q ≡ true → p ≡ true) → p ≡ q
same_truth true q f g = sym (f refl)
same_truth false true f g = g refl
same_truth false false f g = refl

-- a test that holds of every number below n
pub every_of : (test : ℕ → Bool) (n : ℕ) → ((i : ℕ) → i < n → test i ≡ true) → every test n ≡ true
every_of test zero h = refl
every_of test (suc n) h = and_both (h n (omega arith)) (every_of test n (λ i l. h i (omega arith)))

-- at a place
pub alike_at : (f : ℕ → Rows) (n i : ℕ) → alike_to f n i ≡ true → AlikeAt f n i
unfolding alike_to
alike_at f n i e = record {
  with = λ k u. test_registers (kinds_at i) _ _ (all_at (λ j. registers_alike (kinds_at i) (f 0 i).result (f j i).result) n e k u);
}

pub at_alike : (f : ℕ → Rows) (n i : ℕ) → AlikeAt f n i → alike_to f n i ≡ true
unfolding alike_to
at_alike f n i a = all_of (λ j. registers_alike (kinds_at i) (f 0 i).result (f j i).result) n (λ k u. registers_test (kinds_at i) _ _ (a.with k u))

-- over all places
module _ (edition : ℕ) (f : ℕ → Rows) (n : ℕ) where
  pub alike_of_test : all_alike edition f n ≡ true → AllAlike edition f n
  unfolding all_alike
  alike_of_test e i l h =
      alike_at f n i
      (if_holds (all_have edition f n i) _ (every_at (λ i. pick (all_have edition f n i) (alike_to f n i) true) places e i l) h)

  pub test_of_alike : AllAlike edition f n → all_alike edition f n ≡ true
  unfolding all_alike
  test_of_alike a = every_of (λ i. pick (all_have edition f n i) (alike_to f n i) true) places (λ i l. go i l (all_have edition f n i) refl)
    where
      go : (i : ℕ) → i < places → (b : Bool) → all_have edition f n i ≡ b → pick b (alike_to f n i) true ≡ true
      go i l true h = at_alike f n i (a i l h)
      go i l false h = refl
