-- Rows with another row at one place.
use Rattle.std.specs.Prelude.{ℕ, eqb}
use Rattle.bits.specs.Choice.{pick}
use Rattle.x86defs.specs.declared.CpuidResult.{CpuidResult}
use Rattle.table.specs.Rows.{Rows, row}

unfoldable pub with_row : ℕ → CpuidResult → Rows → Rows
with_row i x m j = pick (eqb j i) (row x) (m j)
