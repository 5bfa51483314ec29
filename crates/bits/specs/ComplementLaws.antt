-- The bits that a mask leaves of 32: a mask with more bits leaves fewer.
use Rattle.std.specs.Prelude.{◌≡◌, refl, ℕ, zero, suc, ◌-◌, ◌*◌, ◌/◌, ◌%◌, ◌^◌, ◌<◌}
use Rattle.std.proofs.Common.{sym, ap, ◌∙◌, arith}
use Rattle.std.proofs.Math.Numerals.{unary_clauses}
use Rattle.bits.specs.Bits.{bit}
use Rattle.bits.specs.BitsLaws.{bit_zero, bit_suc}

double : (n : ℕ) → 2 ^ suc n ≡ 2 ^ n * 2
double n = simp unary_clauses refl

-- a bit below n of n ones without those of m
pub complement_bit : (n k m : ℕ) → m < 2 ^ n → k < n → bit k (2 ^ n - 1 - m) ≡ 1 - bit k m
complement_bit zero k m l h = absurd (omega arith)
complement_bit (suc n) zero m l h = bit_zero (2 ^ suc n - 1 - m) ∙ even (2 ^ n) (2 ^ suc n) m (double n) l ∙ ap (λ (x : ℕ). 1 - x) (sym (bit_zero m))
  where
    even : (p q m : ℕ) → q ≡ p * 2 → m < q → (q - 1 - m) % 2 ≡ 1 - m % 2
    even p q m e l = omega arith
complement_bit (suc n) (suc k) m l h =
    bit_suc k (2 ^ suc n - 1 - m)
    ∙ ap (bit k) (half (2 ^ n) (2 ^ suc n) m (double n) l)
    ∙ complement_bit n k (m / 2) (below (2 ^ n) (2 ^ suc n) m (double n) l) (omega arith)
    ∙ ap (λ (x : ℕ). 1 - x) (sym (bit_suc k m))
  where
    half : (p q m : ℕ) → q ≡ p * 2 → m < q → (q - 1 - m) / 2 ≡ p - 1 - m / 2
    half p q m e l = omega arith

    below : (p q m : ℕ) → q ≡ p * 2 → m < q → m / 2 < p
    below p q m e l = omega arith
