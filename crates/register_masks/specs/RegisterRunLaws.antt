-- Laws of a join by and over servers 0 to n.
use Rattle.std.specs.Prelude.{◌≡◌, Bool, true, ◌&&◌, ℕ, zero, suc, ◌≤◌}
use Rattle.std.proofs.Common.{ap, ap₂, ◌∙◌, inl, inr, le_refl, eq-or-lt_of_le, arith}
use Rattle.std.specs.Int.Bits.{bit_and}
use Rattle.bits.specs.ChoiceLaws.{and_left, and_right, and_both}
use Rattle.bits.specs.Bits.{Within}
use Rattle.bits.specs.BitsLaws.{bit_and_lem, within_eq, within_trans, and_within_left, and_within_right}
use Rattle.register_masks.specs.Join.{and_to, all_to}

pub all_at : (p : ℕ → Bool) (n : ℕ) → all_to p n ≡ true → (k : ℕ) → k ≤ n → p k ≡ true
unfolding all_to
all_at p zero e k l = ap p (omega arith) ∙ e
all_at p (suc n) e k l =
    elim (eq-or-lt_of_le l) [
      | inl q ↦ ap p q ∙ and_right (all_to p n) (p (suc n)) e
      | inr q ↦ all_at p n (and_left (all_to p n) (p (suc n)) e) k (omega arith)
    ]

pub all_of : (p : ℕ → Bool) (n : ℕ) → ((k : ℕ) → k ≤ n → p k ≡ true) → all_to p n ≡ true
unfolding all_to
all_of p zero h = h 0 (omega arith)
all_of p (suc n) h = and_both (all_of p n (λ k l. h k (omega arith))) (h (suc n) (le_refl (suc n)))

-- the and is a lower bound
pub and_to_within : (x : ℕ → ℕ) (n k : ℕ) → k ≤ n → Within (and_to x n) (x k)
unfolding and_to
and_to_within x zero k l = within_eq (ap x (omega arith))
and_to_within x (suc n) k l =
    elim (eq-or-lt_of_le l) [
      | inl q ↦ within_trans (and_within_right (and_to x n) (x (suc n))) (within_eq (ap x (omega arith)))
      | inr q ↦ within_trans (and_within_left (and_to x n) (x (suc n))) (and_to_within x n k (omega arith))
    ]

-- and the greatest
pub and_to_greatest : {y : ℕ} (x : ℕ → ℕ) (n : ℕ) → ((k : ℕ) → k ≤ n → Within y (x k)) → Within y (and_to x n)
unfolding and_to
and_to_greatest x zero h = h 0 (omega arith)
and_to_greatest {y} x (suc n) h =
    let a : Within y (and_to x n) = and_to_greatest x n (λ k l. h k (omega arith)) in
    let b : Within y (x (suc n)) = h (suc n) (le_refl (suc n)) in
    record { at = λ k. omega (arith, bit_and_lem k (and_to x n) (x (suc n)), a.at k, b.at k) }

-- only what stands at 0 to n counts
pub and_to_ext : (x y : ℕ → ℕ) (n : ℕ) → ((k : ℕ) → k ≤ n → x k ≡ y k) → and_to x n ≡ and_to y n
unfolding and_to
and_to_ext x y zero h = h 0 (le_refl 0)
and_to_ext x y (suc n) h = ap₂ bit_and (and_to_ext x y n (λ k l. h k (omega arith))) (h (suc n) (le_refl (suc n)))

pub all_to_ext : (p q : ℕ → Bool) (n : ℕ) → ((k : ℕ) → k ≤ n → p k ≡ q k) → all_to p n ≡ all_to q n
unfolding all_to
all_to_ext p q zero h = h 0 (le_refl 0)
all_to_ext p q (suc n) h = ap₂ ◌&&◌ (all_to_ext p q n (λ k l. h k (omega arith))) (h (suc n) (le_refl (suc n)))
