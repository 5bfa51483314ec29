-- Refusals 13 and 14 are given exactly as StateExactly.antt says.
use Rattle.std.specs.Prelude.{◌≡◌, Bool, ◌||◌, ℕ, ◌^◌, ltb}
use Rattle.std.proofs.Math.Path.{refl}
use Rattle.std.proofs.Math.Bool.{true, false}
use Rattle.std.proofs.Common.{inl, inr, arith}
use Rattle.std.specs.Int.Bits.{bit_or}
use borrow.Author.Tests.{eqb-true, eq-eqb, ltb-true, ltb-false}
use Rattle.bits.specs.ChoiceLaws.{never_both, and_left, and_right, and_both, pick_true, pick_false}
use Rattle.bits.specs.Bits.{has, Within}
use Rattle.bits.specs.BitsLaws.{has_bit, bit_has, within_of_and, and_of_within}
use Rattle.bits.proofs.BitsLaws.{has_mono}
use Rattle.masking.specs.Place
use Rattle.table.specs.declared.Refusal.TheVariants.{StateBeyondTable, CompactSizeTooLarge}
use Rattle.table.specs.Refusal.{and_then}
use Rattle.table.specs.Rows.{Rows}
use Rattle.checks.specs.Checks.{refuse_unless}
use Rattle.checks.specs.ExtendedState.{xfem, xss as maxXss}
use Rattle.guest_state.specs.Compact.{compact_size}
use Rattle.guest_state.specs.State.{within_test, allowed, compacts, compact_register, allowed_verdict, compact_verdict, state_verdict}
use Rattle.guest_rise.specs.StateExactly.{Allowed, EitherBit, SizeFault, StateAnswers}
use Rattle.guest_rise.specs.StateExactly.StateAnswers.{beyond, large, given}

-- ---- the conditions, each by itself

-- ---- the tests

pub test_allowed : (m : Rows) (x s : ℕ) → allowed (xfem m) (maxXss m) x s ≡ true → Allowed m x s
unfolding allowed
test_allowed m x s e =
    let f = and_right (has 0 x) _ e in
    record {
      x87 = has_bit 0 _ (and_left (has 0 x) _ e);
      user = within_of_and (eqb-true _ _ (and_left (within_test x (xfem m)) _ f));
      supervisor = within_of_and (eqb-true _ _ (and_right (within_test x (xfem m)) _ f));
    }

pub allowed_test : (m : Rows) (x s : ℕ) → Allowed m x s → allowed (xfem m) (maxXss m) x s ≡ true
unfolding allowed
allowed_test m x s h =
    and_both (bit_has 0 _ h.x87) (and_both (eq-eqb _ _ (and_of_within h.user)) (eq-eqb _ _ (and_of_within h.supervisor)))

pub test_either : (x : ℕ) → compacts x ≡ true → EitherBit x
unfolding compacts
test_either x e = go (has 1 x) refl e
  where
    go : (p : Bool) → has 1 x ≡ p → (p || has 3 x) ≡ true → EitherBit x
    go true f g = inl (has_bit 1 x f)
    go false f g = inr (has_bit 3 x g)

pub either_test : (x : ℕ) → EitherBit x → compacts x ≡ true
unfolding compacts
either_test x (inl e) = rw (bit_has 1 x e)
either_test x (inr e) = go (has 1 x)
  where
    go : (p : Bool) → (p || has 3 x) ≡ true
    go true = refl
    go false = bit_has 3 x e

-- neither is lost where bits are added
pub compacts_mono : {x y : ℕ} → Within x y → compacts x ≡ true → compacts y ≡ true
compacts_mono {x} {y} h e = go (test_either x e)
  where
    go : EitherBit x → compacts y ≡ true
    go (inl f) = either_test y (inl (has_bit 1 y (has_mono 1 h (bit_has 1 x f))))
    go (inr f) = either_test y (inr (has_bit 3 y (has_mono 3 h (bit_has 3 x f))))
