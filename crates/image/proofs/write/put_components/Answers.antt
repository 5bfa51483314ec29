-- `image::write::put_components` meets its contract: a turn writes the row of the lowest component that is left.
use borrow.Author.Rules.{rules}
use Prim.Native.Nat.{◌+◌, ◌≤◌}
use lib.ListN.{length}
use Rattle.checks.specs.LowestLaws.{left_starts}
use Rattle.image.specs.PutLaws.{putting_starts, putting_room, putting_next, putting_ends}
use Rattle.image.proofs.write.put_components.Goals as goal
use Rattle.image.proofs.write.put_components.Goals.{In-loop-rest}

pub loop-rest-init : goal.loop-rest-init
loop-rest-init c = putting_starts _ _ _ c.requires.0 (left_starts _ (search rules))

-- there is room for the row of the lowest component
room : (c : In-loop-rest) → c.loop-rest.at + 25 ≤ length c.loop-rest.out
room c =
    let p = c.requires in
    putting_room _ _ _ p.0 c.loop-rest.invariant c.loop-rest-test.true p.1

pub put_indexed_row-requires : goal.put_indexed_row-requires
put_indexed_row-requires c = room (goal.at.put_indexed_row-requires c).In-loop-rest

pub loop-rest-preserved : goal.loop-rest-preserved
loop-rest-preserved c =
    putting_next _ _ _ c.requires.0 c.loop-rest.invariant c.loop-rest-test.true
    c.row_at-r.ensures c.put_indexed_row.ensures

pub returns : goal.returns
returns c = putting_ends _ _ _ c.requires.0 c.loop-rest.invariant c.loop-rest-test.false
