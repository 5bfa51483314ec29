-- `collect::collect_into` meets its contract: before each turn the entries that are left give what all give. The inner loop keeps to one page: a step
-- to position 0 leaves it, so a turn of the outer one ends on a later page.
use mathlib.Core.Path.{◌≡◌}
use Prim.Native.Nat.{◌-◌}
use lib.ListN.{length}
use Rattle.pages.specs.Layout.{pages_in}
use Rattle.pages.specs.Walk.{rest}
use Rattle.collect.specs.WalkingLaws.{Walking}
use Rattle.collect.proofs.collect_into.Given as goal

abbrev pub invariant-loop-entry : goal.invariant-loop-entry
invariant-loop-entry l = Walking l.pages l.registers l.origins l.full l.index × (l.index.page_index ≡ l.page)

abbrev pub decreases-loop-entry : goal.decreases-loop-entry
decreases-loop-entry l = length (rest l.pages l.index)

abbrev pub invariant-loop-index : goal.invariant-loop-index
invariant-loop-index l = Walking l.pages l.registers l.origins l.full l.index

abbrev pub decreases-loop-index : goal.decreases-loop-index
decreases-loop-index l = pages_in l.pages - l.index.page_index
