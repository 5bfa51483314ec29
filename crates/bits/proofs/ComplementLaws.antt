-- The bits that a mask leaves of 32: a mask with more bits leaves fewer.
use Rattle.std.specs.Prelude.{◌≡◌, refl, Bool, true, false, ℕ, ◌-◌, ◌^◌, ◌≤◌, ◌<◌, ltb}
use Rattle.std.proofs.Common.{arith, ltb-true, ltb-false}
use Rattle.std.proofs.Math.Nat.{div-eq_of_lt}
use Rattle.bits.specs.Bits.{bit, Within}
use Rattle.bits.specs.BitsLaws.{within_le, has_not}
use Rattle.bits.proofs.BitsLaws.{none_from}
use Rattle.bits.specs.ComplementLaws.{complement_bit}

-- none from 32 on
none_above : (k m : ℕ) → 32 ≤ k → bit k (2 ^ 32 - 1 - m) ≡ 0
none_above k m l = has_not k (2 ^ 32 - 1 - m) (none_from (2 ^ 32 - 1 - m) 32 (div-eq_of_lt (omega arith)) k l)

pub within_left : {m n : ℕ} → n < 2 ^ 32 → Within m n → Within (2 ^ 32 - 1 - n) (2 ^ 32 - 1 - m)
within_left {m} {n} l h = record { at = λ k. go k (ltb k 32) refl }
  where
    go : (k : ℕ) (b : Bool) → ltb k 32 ≡ b → bit k (2 ^ 32 - 1 - n) ≤ bit k (2 ^ 32 - 1 - m)
    go k true e =
        let u : k < 32 = ltb-true k 32 e in
        omega (arith, complement_bit 32 k n l u, complement_bit 32 k m (omega (arith, within_le h)) u, h.at k)
    go k false e = omega (arith, none_above k n (ltb-false k 32 e))
