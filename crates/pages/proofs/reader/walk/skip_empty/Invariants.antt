-- `pages::reader::walk::skip_empty` meets its contract, by the laws of the first entry from a page on. The invariant: from here on the first entry is the
-- one from `page` on. The measure is how many pages are left.
use mathlib.Core.Path.{◌≡◌}
use Prim.Native.Nat.{◌-◌, ◌≤◌}
use Rattle.pages.specs.Layout.{pages_in}
use Rattle.pages.specs.Walk.{first_from}
use Rattle.pages.proofs.reader.walk.skip_empty.Given as goal

abbrev pub invariant-loop-at : goal.invariant-loop-at
invariant-loop-at l = (l.at ≤ pages_in l.pages) × (first_from l.pages l.page ≡ first_from l.pages l.at)

abbrev pub decreases-loop-at : goal.decreases-loop-at
decreases-loop-at l = pages_in l.pages - l.at
