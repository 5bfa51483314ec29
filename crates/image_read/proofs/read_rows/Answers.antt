-- `image_read::read_rows` meets its contract. The invariant: the runs that are left follow one another from the place that reading has come to.
use Rattle.masking.specs.RunOrderLaws.{no_run, runs_in_order, order_next, order_ends}
use Rattle.image_read.specs.ReadingLaws.{reading_starts, reading_ends}
use Rattle.image_read.proofs.read_rows.Goals as goal

pub loop-run-init : goal.loop-run-init
loop-run-init c = (0, runs_in_order, reading_starts _ c.clear.ensures.0 c.clear.ensures.1)

pub read_run-at-requires : goal.read_run-at-requires
read_run-at-requires c =
    let next = order_next _ _ _ no_run c.loop-run.invariant.1 c.loop-run-test.true in
    (next.lawful, rw next.begins c.loop-run.invariant.2)

pub loop-run-preserved : goal.loop-run-preserved
loop-run-preserved c =
    let next = order_next _ _ _ no_run c.loop-run.invariant.1 c.loop-run-test.true in
    (_, next.further, rw next.begins at c.read_run-at.ensures)

pub returns : goal.returns
returns c = reading_ends _ (order_ends _ _ _ c.loop-run.invariant.1 c.loop-run-test.false) c.loop-run.invariant.2
