-- Laws of bits, of fields and of "at least".
use Rattle.std.specs.Prelude.{◌≡◌, refl, Bool, true, false, ◌&&◌, ℕ, ◌+◌, ◌-◌, ◌/◌, ◌^◌, ◌≤◌}
use Rattle.std.proofs.Common.{sym, ap, ◌∙◌, arith}
use Rattle.std.specs.Int.Bits.{bit_and}
use Rattle.bits.specs.Bits.{bit, has, Within}
use Rattle.bits.specs.BitsLaws.{bit_and_lem, bit_has, bit_has_not, bit_lt, bit_shr, has_bit, has_not, zero_bit}

-- a number shifted to 0 has no bit left
pub none_from : (x k : ℕ) → x / 2 ^ k ≡ 0 → (j : ℕ) → k ≤ j → has j x ≡ false
none_from x k e j l =
    let q : j ≡ k + (j - k) = omega arith in
    bit_has_not j x (ap (λ (n : ℕ). bit n x) q ∙ sym (bit_shr k (j - k) x) ∙ ap (bit (j - k)) e ∙ zero_bit (j - k))

pub has_mono : {a b : ℕ} (k : ℕ) → Within a b → has k a ≡ true → has k b ≡ true
has_mono {a} {b} k h e = bit_has k b (omega (arith, h.at k, bit_lt k b, has_bit k a e))

-- ---- and, by bits

pub has_and : (k a b : ℕ) → has k (bit_and a b) ≡ (has k a && has k b)
has_and k a b = go (has k a) (has k b) refl refl
  where
    go : (p q : Bool) → has k a ≡ p → has k b ≡ q → has k (bit_and a b) ≡ (p && q)
    go true true e f = bit_has k _ (omega (arith, bit_and_lem k a b, has_bit k a e, has_bit k b f))
    go true false e f = bit_has_not k _ (omega (arith, bit_and_lem k a b, has_not k b f))
    go false q e f = bit_has_not k _ (omega (arith, bit_and_lem k a b, has_not k a e))
