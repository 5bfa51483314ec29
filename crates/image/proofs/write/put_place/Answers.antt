-- `image::write::put_place` meets its contract: each branch is one case of `run_row`.
use mathlib.Core.Path.{ap}
use Prim.Native.Nat.{◌+◌}
use native.Mathlib.Omega.{arith}
use lib.ListN.{length}
use Rattle.x86defs.specs.Functions.{function}
use Rattle.image.specs.PiecesLaws.{run_indexed, run_whole, run_absent, indexed_length, whole_length}
use Rattle.image.proofs.write.put_place.Goals as goal

pub put_indexed_row-requires : goal.put_indexed_row-requires
put_indexed_row-requires c =
    let a = c.args in
    let e = run_indexed a.run a.k a.r c.if-present.true c.if-run.true in
    omega (arith, ap length e, indexed_length a.run.leaf a.k a.r)

pub returns-then-run : goal.returns-then-run
returns-then-run c =
    let a = c.args in
    let e = run_indexed a.run a.k a.r c.if-present.true c.if-run.true in
    (omega (arith, ap length e, indexed_length a.run.leaf a.k a.r), rw e c.put_indexed_row.ensures)

pub put_whole_row-requires : goal.put_whole_row-requires
put_whole_row-requires c =
    let a = c.args in
    let e = run_whole a.run a.k a.r c.if-present.true c.if-run.false in
    omega (arith, ap length e, whole_length (function (a.run.leaf.0 + a.k)) a.r)

pub returns-then-present : goal.returns-then-present
returns-then-present c =
    let a = c.args in
    let e = run_whole a.run a.k a.r c.if-present.true c.if-run.false in
    (omega (arith, ap length e, whole_length (function (a.run.leaf.0 + a.k)) a.r), rw e c.put_whole_row.ensures)

pub returns : goal.returns
returns c =
    let a = c.args in
    let e = run_absent a.run a.k a.r c.if-present.false in
    (omega (arith, ap length e), rw e)
