-- Refusals 13 and 14 are given exactly as StateExactly.antt says.
use Rattle.std.specs.Prelude.{◌≡◌, Bool, ◌||◌, ℕ, ◌^◌, ltb, Ok}
use Rattle.std.proofs.Math.Path.{refl}
use Rattle.std.proofs.Math.Bool.{true, false}
use Rattle.std.proofs.Common.{inl, inr, arith}
use Rattle.std.specs.Int.Bits.{bit_or}
use borrow.Author.Tests.{eqb-true, eq-eqb, ltb-true, ltb-false}
use Rattle.bits.specs.ChoiceLaws.{never_both, and_left, and_right, and_both, pick_true, pick_false}
use Rattle.bits.specs.Bits.{has, Within}
use Rattle.bits.specs.BitsLaws.{has_bit, bit_has, within_of_and, and_of_within}
use Rattle.bits.proofs.BitsLaws.{has_mono}
use Rattle.masking.specs.Place
use Rattle.table.specs.declared.Refusal.TheVariants.{StateBeyondTable, CompactSizeTooLarge}
use Rattle.table.specs.Refusal.{and_then}
use Rattle.table.specs.Rows.{Rows}
use Rattle.checks.specs.Checks.{refuse_unless}
use Rattle.checks.specs.ExtendedState.{xfem, xss as maxXss}
use Rattle.guest_state.specs.Compact.{compact_size}
use Rattle.guest_state.specs.State.{within_test, allowed, compacts, compact_register, allowed_verdict, compact_verdict, state_verdict}
use Rattle.guest_rise.specs.StateExactly.{Allowed, EitherBit, SizeFault, StateAnswers}
use Rattle.guest_rise.specs.StateExactly.StateAnswers.{beyond, large, given}
use Rattle.guest_rise.specs.StateExactlyProof.{allowed_test, either_test, test_allowed, test_either}

-- ---- the verdict

module _ (m : Rows) (x s : ℕ) where
  size_answers : Allowed m x s → (b c : Bool) → compacts (m (Place.extended_state 1)).result.eax ≡ b → ltb (compact_register m x s) (2 ^ 32) ≡ c
      → StateAnswers m x s (refuse_unless c CompactSizeTooLarge)
  unfolding compact_register
  size_answers h b true e f =
      given h
      (λ q. absurd (let z : compact_register m x s ≡ compact_size m (bit_or x s) = pick_true _ _ (either_test _ q.compacted) in
      omega (arith, q.large, ltb-true (compact_register m x s) (2 ^ 32) f)))
      refl
  size_answers h true false e f =
      let z : compact_register m x s ≡ compact_size m (bit_or x s) = pick_true _ _ e in
      large h (record { compacted = test_either _ e; large = omega (arith, ltb-false (compact_register m x s) (2 ^ 32) f) }) refl
  size_answers h false false e f =
      absurd (let z : compact_register m x s ≡ 0 = pick_false _ _ e in omega (arith, ltb-false (compact_register m x s) (2 ^ 32) f))

  pub state_answers : StateAnswers m x s (state_verdict m x s)
  unfolding state_verdict allowed_verdict compact_verdict
  state_answers = go (allowed (xfem m) (maxXss m) x s) refl
    where
      go : (b : Bool) → allowed (xfem m) (maxXss m) x s ≡ b → StateAnswers m x s (and_then (refuse_unless b StateBeyondTable) (compact_verdict m x s))
      go true e = size_answers (test_allowed m x s e) _ _ refl refl
      go false e = beyond (λ h. never_both (allowed_test m x s h) e) refl

  -- a given view allows its states, and has no size that is too large
  pub given_allowed : state_verdict m x s ≡ Ok tt → Allowed m x s
  given_allowed g = go state_answers
    where
      go : StateAnswers m x s (state_verdict m x s) → Allowed m x s
      go (beyond f e) = absurd (let z : ◌≡◌ {A = ℕ} 0 1 = cc in omega arith)
      go (large h f e) = h
      go (given h f e) = h

  pub given_fits : state_verdict m x s ≡ Ok tt → SizeFault m x s → ⊥
  given_fits g = go state_answers
    where
      go : StateAnswers m x s (state_verdict m x s) → SizeFault m x s → ⊥
      go (beyond f e) q = absurd (let z : ◌≡◌ {A = ℕ} 0 1 = cc in omega arith)
      go (large h f e) q = absurd (let z : ◌≡◌ {A = ℕ} 0 1 = cc in omega arith)
      go (given h f e) q = f q
