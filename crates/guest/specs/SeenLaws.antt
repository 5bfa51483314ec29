-- The guest's table, row by row: five rows differ where they are there, and no other.
use Rattle.std.specs.Prelude.{◌≡◌, ℕ, ◌<◌}
use Rattle.bits.specs.ListsLaws.{get_d_tabulate}
use Rattle.x86defs.specs.Functions.{cpuid_result}
use Rattle.masking.specs.Kept.{places}
use Rattle.table.specs.declared.CpuidResults.{CpuidResults}
use Rattle.table.specs.Table.{row_in}
use Rattle.guest.specs.declared.Processor.{Processor}
use Rattle.guest.specs.Guest.{seen_in, guest_table}

pub seen_row : (t : CpuidResults) (v : Processor) (i : ℕ) → i < places → (row_in (guest_table t v) i).result ≡ seen_in t v i
seen_row t v i l = get_d_tabulate places (seen_in t v) i (cpuid_result 0 0 0 0) l
