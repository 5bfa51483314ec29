-- Document 02, P5: "Only v from the legacy method that is no power of two changes." Of an accepted topology the shift is what document 01's
-- rule gave, the place of the highest one bit of v, but where v comes from the legacy method and is no power of two: there it is one more.
use Rattle.std.specs.Prelude.{◌≡◌, ◌≢◌, ℕ, suc, ◌^◌, ◌≤◌, ◌<◌}
use Rattle.topology.specs.Topology.{Inputs, shift_of}

-- p is the place of the highest one bit of v
pub record HighestBit (v p : ℕ) : Type 0 where
  pub low : 2 ^ p ≤ v
  pub high : v < 2 ^ suc p

pub data ShiftChange (i : Inputs) (v p : ℕ) : Type 0 where
  same : v ≡ 2 ^ p → shift_of v ≡ p → ShiftChange i v p
  more : i.s ≡ 0 → i.mt ≢ 0 → v ≡ i.lps → v ≢ 2 ^ p → shift_of v ≡ suc p → ShiftChange i v p

pub record Legacy (i : Inputs) (v : ℕ) : Type 0 where
  pub size : i.s ≡ 0
  pub threads : i.mt ≢ 0
  pub count : v ≡ i.lps
