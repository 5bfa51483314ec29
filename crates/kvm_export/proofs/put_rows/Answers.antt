-- `kvm_export::put_rows` meets its contract. The invariant: the runs that are left follow one another from the place that writing has come to.
use Rattle.std.proofs.Common.{◌≡◌, arith}
use Rattle.masking.specs.Kept.{places}
use Rattle.masking.specs.RunOrderLaws.{no_run, runs_in_order, order_next, order_ends}
use Rattle.buffer.specs.OnwardLaws.{onward_none, onward_join, onward_all}
use Rattle.kvm_export.specs.ExportListLaws.{rows_none}
use Rattle.kvm_export.proofs.put_rows.Goals as goal

pub loop-run-init : goal.loop-run-init
loop-run-init c = (0, runs_in_order, onward_none _ _ _ _)

pub put_run-at-requires : goal.put_run-at-requires
put_run-at-requires c =
    let on = c.loop-run.invariant.2 in
    let next = order_next _ _ _ no_run c.loop-run.invariant.1 c.loop-run-test.true in
    (next.lawful, rw next.begins (omega (arith, on.room, on.kept)))

pub loop-run-preserved : goal.loop-run-preserved
loop-run-preserved c =
    let next = order_next _ _ _ no_run c.loop-run.invariant.1 c.loop-run-test.true in
    (_, next.further, onward_join _ c.loop-run.invariant.2 (rw next.begins at c.put_run-at.ensures))

pub returns : goal.returns
returns c =
    let end : c.loop-run.invariant.0 ≡ places = order_ends _ _ _ c.loop-run.invariant.1 c.loop-run-test.false in
    onward_all _ _ _ _ _ _ _ (rows_none _ _ end) c.loop-run.invariant.2
