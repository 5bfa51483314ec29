-- `pool::sets::join_rest` meets its contract: before each turn no server passed is refused, their entries are joined, and the next set
-- begins at `start`.
use mathlib.Core.Path.{◌≡◌}
use Rattle.pool.specs.Sets.{set_start}
use Rattle.pool.specs.ServersLaws.{Joining}
use Rattle.pool.proofs.sets.join_rest.Given as goal

abbrev pub invariant-loop-k : goal.invariant-loop-k
invariant-loop-k l = (l.start ≡ set_start l.lengths l.k) × Joining l.choices l.pages l.lengths l.k l.registers l.alike
