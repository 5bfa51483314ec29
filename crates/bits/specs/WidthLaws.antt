-- Numbers of 32 bits: and, or and clearing keep them so.
use Rattle.std.proofs.Common.{◌∙◌, mod-eq_of_lt, arith}
use Rattle.std.specs.Prelude.{Bool, ℕ, ◌-◌, ◌^◌, ◌<◌}
use Rattle.std.specs.Int.Bits.{bit_and, bit_or}
use Rattle.std.proofs.lemmas.Nat.{and_mask, and_le_r}
use Rattle.bits.specs.Bits.{Within, clear_unless}
use Rattle.bits.specs.BitsLaws.{within_of_and, within_trans, within_le, or_least, clear_unless_within}

within_ones : {x : ℕ} → x < 2 ^ 32 → Within x (2 ^ 32 - 1)
within_ones {x} h = within_of_and (and_mask x 32 ∙ mod-eq_of_lt h)

ones_within : {x : ℕ} → Within x (2 ^ 32 - 1) → x < 2 ^ 32
ones_within h = omega (arith, within_le h)

pub and_fits : (x : ℕ) {m : ℕ} → m < 2 ^ 32 → bit_and x m < 2 ^ 32
and_fits x {m} h = omega (arith, and_le_r x m)

pub or_fits : {x y : ℕ} → x < 2 ^ 32 → y < 2 ^ 32 → bit_or x y < 2 ^ 32
or_fits h l = ones_within (or_least (within_ones h) (within_ones l))

pub clear_fits : (b : Bool) (m : ℕ) {x : ℕ} → x < 2 ^ 32 → clear_unless b m x < 2 ^ 32
clear_fits b m {x} h = ones_within (within_trans (clear_unless_within b m x) (within_ones h))
