-- The finished rows as a list of stores: subleaves dropped, then ten rows at their places. Equal to the definition's rows place by place,
-- since every required row is there.
use Rattle.std.specs.Prelude.{Bool, ℕ}
use Rattle.x86defs.specs.declared.CpuidResult.{CpuidResult}
use Rattle.topology.specs.Topology.{thread_level, core_level}
use Rattle.table.specs.Rows.{Row}
use Rattle.finish.specs.Finish.{Enabled, YmmClears, Settings}

abbrev pub with_presence : Bool → CpuidResult → Row
with_presence b q = record { present = b; result = q }

-- the rows, from what the code has at hand
abbrev pub settings_with : YmmClears → Enabled → ℕ → ℕ → ℕ → Settings
settings_with y e size t v = record { clears = y; enabled = e; save_area = size; threads = thread_level t; cores = core_level v }
