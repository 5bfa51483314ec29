-- The components, subleaves 2 to 63 of leaf Dh, as a word of bits. Document 01, "An accepted table has .. one for each combined bit from 2 up".
use Rattle.std.specs.Prelude.{◌≡◌, List, ℕ, ◌≤◌, ◌<◌, get_or}
use Rattle.bits.specs.Bits.{has}
use Rattle.masking.specs.Place
use Rattle.memory.specs.Memory.{is_there}

-- x tells which components have a row in memory with origins o; its bits 0 and 1 tell nothing
pub record Components (o : List ℕ) (x : ℕ) : Type 0 where
  pub there : (k : ℕ) → 2 ≤ k → k < 64 → is_there (get_or o (Place.extended_state k) 0) ≡ has k x
