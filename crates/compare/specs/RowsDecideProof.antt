-- The answer means what it says, and no other answer does, whatever the tests of a register, of a row too many and of the masks decide.
use Rattle.std.specs.Prelude.{◌≡◌, Bool, true, false}
use Prim.Native.Nat.{ℕ}
use Rattle.bits.specs.ChoiceLaws.{never_both}
use Rattle.finish.specs.Kinds.{Kind}
use Rattle.compare.specs.RowsCompared.{Wanted}
use Rattle.compare.specs.RowsMean.{Sides}

-- the tests decide what is said of the sides
pub record Tested (w : Wanted) (s : Sides) : Type 0 where
  pub passed : (k : Kind) (a b : ℕ) → w.register k a b ≡ true → s.AtLeast k a b
  pub passing : (k : Kind) (a b : ℕ) → s.AtLeast k a b → w.register k a b ≡ true
  pub allowed : (i : ℕ) → w.beyond i ≡ true → s.MayStand i
  pub allowing : (i : ℕ) → s.MayStand i → w.beyond i ≡ true
  pub masked : w.masks ≡ true → s.MasksRise
  pub masking : s.MasksRise → w.masks ≡ true

pub never : {X : Type 0} {b : Bool} → b ≡ false → b ≡ true → X
never e p = absurd (never_both p e)
