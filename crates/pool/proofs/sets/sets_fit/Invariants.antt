-- `pool::sets::sets_fit` meets its contract: before each turn the bytes left and those passed are all.
use Rattle.std.proofs.Common.{◌≡◌, ◌+◌, length}
use Rattle.pool.specs.Sets.{set_start}
use Rattle.pool.proofs.sets.sets_fit.Given as goal

abbrev pub invariant-loop-length : goal.invariant-loop-length
invariant-loop-length l = l.left + set_start l.lengths l.length-index ≡ length l.pages
