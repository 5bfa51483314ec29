-- `memory::row_count` meets its contract: the count is that of the places passed.
use Rattle.std.proofs.Common.{◌≡◌, ◌≤◌}
use Rattle.memory.specs.Held.{count_to}
use Rattle.memory.proofs.row_count.Given as goal

abbrev pub invariant-loop-origin : goal.invariant-loop-origin
invariant-loop-origin l = (l.count ≤ l.origin-index) × (l.count ≡ count_to l.origins l.origin-index)
