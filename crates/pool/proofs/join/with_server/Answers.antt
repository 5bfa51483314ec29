-- `with_server` meets its contract: below the place that the loop has come to, rows are joined and flags are those found.
use borrow.Author.Rules.{rules}
use mathlib.Core.Path.{◌≡◌}
use native.Mathlib.Omega.{arith}
use lib.ListN.{length}
use Rattle.finish.specs.Kinds.{kinds_at}
use Rattle.pool.specs.CodeLaws.{joining_next, joining_ends}
use Rattle.pool.proofs.join.with_server.Goals as goal
use Rattle.pool.proofs.join.with_server.Goals.{Start}

alike-length : (c : Start) → length c.args.alike ≡ 88
alike-length c = search rules

pub loop-place-preserved : goal.loop-place-preserved
loop-place-preserved c =
    rw c.put_row.ensures
    (joining_next _ _ _ c.loop-place.place (search rules) (alike-length (goal.at.loop-place-preserved c).Start) c.loop-place.invariant c.row_at-a.ensures c.row_at-b.ensures
    (c.same_row.ensures (kinds_at c.loop-place.place) c.masks_at-masks.ensures) (c.join_row.ensures (kinds_at c.loop-place.place) c.masks_at-masks.ensures))

pub returns : goal.returns
returns c =
    joining_ends _ _ _ c.loop-place.place (omega arith) (alike-length (goal.at.returns c).Start) c.loop-place.invariant
