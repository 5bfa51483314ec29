-- Document 02, P3: "576 plus the EAX of each subleaf from 2 up in XCR0 or XSS, ascending, each start raised to a multiple of 64 where
-- that row's ECX bit 1 is set", over unbounded numbers and any mask.
use Rattle.std.specs.Prelude.{Bool, true, false, ◌&&◌, ℕ, zero, suc, ◌+◌, ◌*◌, ◌/◌, leb}
use Rattle.bits.specs.Choice.{pick}
use Rattle.bits.specs.Bits.{has}
use Rattle.x86defs.specs.declared.CpuidResult.{CpuidResult}
use Rattle.masking.specs.Place
use Rattle.table.specs.Rows.{Rows}

-- n raised to a multiple of 64
abbrev pub raised : ℕ → ℕ
raised n = (n + 63) / 64 * 64

-- where subleaf r starts if the area before it has n bytes
unfoldable pub component_start : CpuidResult → ℕ → ℕ
component_start r n = pick (has 1 r.ecx) (raised n) n

-- the area once subleaf r stands behind n bytes, if it is used
unfoldable pub placed : Bool → CpuidResult → ℕ → ℕ
placed true r n = component_start r n + r.eax
placed false r n = n

-- the area over the subleaves below n that a mask has
unfoldable pub compact_below : Rows → ℕ → ℕ → ℕ
compact_below m x zero = 576
compact_below m x (suc k) = placed (leb 2 k && has k x) (m (Place.extended_state k)).result (compact_below m x k)

abbrev pub compact_size : Rows → ℕ → ℕ
compact_size m x = compact_below m x 64
