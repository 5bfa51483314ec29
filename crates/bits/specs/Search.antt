-- Tests over a run of numbers: whether all pass, and the lowest that fails.
use Rattle.std.specs.Prelude.{Bool, true, ◌&&◌, ℕ, zero, suc}
use Rattle.bits.specs.Choice.{pick}

-- whether every number below n passes the test
abbrev pub every : (ℕ → Bool) → ℕ → Bool
every test zero = true
every test (suc n) = test n && every test n

pub data Failing : Type 0 where
  at : ℕ → Failing
  none : Failing

-- the lowest of the n numbers from k on that fails the test
unfoldable pub lowest : (ℕ → Bool) → ℕ → ℕ → Failing
lowest test k zero = none
lowest test k (suc n) = pick (test k) (lowest test (suc k) n) (at k)
