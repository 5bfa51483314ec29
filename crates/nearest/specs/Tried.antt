-- Rows in which a flip is tried: those of a page set whose required leaves are there, but for one row.
use Rattle.std.specs.Prelude.{◌≡◌, true, ℕ, ◌<◌, Ok}
use Rattle.x86defs.specs.declared.CpuidResult.{CpuidResult}
use Rattle.masking.specs.Kept.{places}
use Rattle.table.specs.Rows.{Rows}
use Rattle.checks.specs.Checks.{required_verdict}
use Rattle.nearest.specs.WithRow.{with_row}

-- o are the rows m with another row at place i
pub record TriedAt (m o : Rows) (i : ℕ) : Type 0 where
  pub small : i < places
  pub present : (m i).present ≡ true
  pub required : required_verdict m ≡ Ok tt
  pub tried : CpuidResult
  pub changed : o ≡ with_row i tried m
