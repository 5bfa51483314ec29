-- Rows at the 88 places. A map of the Rust is here a function from the place to a row, with a flag for whether the row is there.
use Rattle.std.specs.Prelude.{Bool, true, false, ℕ}
use Rattle.x86defs.specs.declared.CpuidResult.{CpuidResult}
use Rattle.x86defs.specs.Functions.{cpuid_result}

pub record Row : Type 0 where
  pub present : Bool
  pub result : CpuidResult

abbrev pub Rows : Type 0
Rows = ℕ → Row

abbrev pub row : CpuidResult → Row
row r = record { present = true; result = r }

abbrev pub vacant : Row
vacant = record { present = false; result = cpuid_result 0 0 0 0 }
