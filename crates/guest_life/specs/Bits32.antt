-- Numbers of 32 bits are known by their 32 bits: none is set above.
use Rattle.std.specs.Prelude.{◌≡◌, refl, Bool, true, false, ℕ, ◌+◌, ◌-◌, ◌/◌, ◌^◌, ◌≤◌, ◌<◌, ltb}
use Rattle.std.proofs.Common.{sym, ap, ◌∙◌, arith, ltb-true, ltb-false}
use Rattle.bits.specs.Bits.{bit}
use Rattle.bits.specs.BitsLaws.{bit_shr, zero_bit, bits_ext}

pub above : (x k : ℕ) → x < 2 ^ 32 → 32 ≤ k → bit k x ≡ 0
above x k l h =
    let q : k ≡ 32 + (k - 32) = omega arith in
    let z : x / 2 ^ 32 ≡ 0 = omega arith in
    ap (λ (n : ℕ). bit n x) q ∙ sym (bit_shr 32 (k - 32) x) ∙ ap (bit (k - 32)) z ∙ zero_bit (k - 32)

pub bits_32 : (x y : ℕ) → x < 2 ^ 32 → y < 2 ^ 32 → ((k : ℕ) → k < 32 → bit k x ≡ bit k y) → x ≡ y
bits_32 x y l h f = bits_ext x y (λ k. go k (ltb k 32) refl)
  where
    go : (k : ℕ) (b : Bool) → ltb k 32 ≡ b → bit k x ≡ bit k y
    go k true e = f k (ltb-true k 32 e)
    go k false e = let d : 32 ≤ k = ltb-false k 32 e in above x k l d ∙ sym (above y k h d)

pub set_below : (x k : ℕ) → x < 2 ^ 32 → bit k x ≡ 1 → k < 32
set_below x k l e = go (ltb k 32) refl
  where
    go : (b : Bool) → ltb k 32 ≡ b → k < 32
    go true f = ltb-true k 32 f
    go false f = absurd (let h : 32 ≤ k = ltb-false k 32 f in omega (arith, above x k l h))
