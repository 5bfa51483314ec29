-- Bits and bitfields of a register: document 01, "Each named bitfield is cut out of its register by shift and mask".
-- A register is a number; its bits are counted from 0, the lowest.
use Rattle.std.specs.Prelude.{Bool, List, [], ◌∷◌, ℕ, ◌+◌, ◌-◌, ◌*◌, ◌/◌, ◌%◌, ◌^◌, ◌≤◌, eqb}
use Rattle.std.specs.Int.Bits.{bit_and}
use Rattle.bits.specs.Choice.{pick}

-- bit k of n: 0 or 1
unfoldable pub bit : ℕ → ℕ → ℕ
bit k n = n / 2 ^ k % 2

-- whether bit k of n is set
unfoldable pub has : ℕ → ℕ → Bool
has k n = eqb (bit k n) 1

-- the w bits of n from bit k up: the shift by k, cut to w bits
unfoldable pub field : ℕ → ℕ → ℕ → ℕ
field k w n = n / 2 ^ k % 2 ^ w

-- the mask of those w bits
unfoldable pub field_mask : ℕ → ℕ → ℕ
field_mask k w = (2 ^ w - 1) * 2 ^ k

-- the mask of named bits: the sum of their powers of two
unfoldable pub mask_of {ℓ} : {A : Type ℓ} → (A → ℕ) → List A → ℕ
mask_of place [] = 0
mask_of place (b ∷ bs) = 2 ^ place b + mask_of place bs

-- a 32-bit register with every bit of m cleared
unfoldable pub clear : ℕ → ℕ → ℕ
clear m x = bit_and x (2 ^ 32 - 1 - m)

-- the same, but x itself where the test holds
unfoldable pub clear_unless : Bool → ℕ → ℕ → ℕ
clear_unless keep m x = pick keep x (clear m x)

-- "at least": every bit that is set in a is set in b
pub record Within (a b : ℕ) : Type 0 where
  pub at : (k : ℕ) → bit k a ≤ bit k b
