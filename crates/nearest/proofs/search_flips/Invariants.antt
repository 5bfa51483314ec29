-- `nearest::search_flips` meets its contract: before each turn the first flip of the entries left is the first of all.
use lib.ListN.{length}
use Rattle.pages.specs.Walk.{rest}
use Rattle.nearest.specs.Nearest.{chosen}
use Rattle.nearest.specs.NearestSearchLaws.{Searching}
use Rattle.nearest.proofs.search_flips.Given as goal

abbrev pub invariant-loop-index : goal.invariant-loop-index
invariant-loop-index l = Searching (chosen l.secure_avic l.edition) l.pages l.seen l.index

abbrev pub decreases-loop-index : goal.decreases-loop-index
decreases-loop-index l = length (rest l.pages l.index)
