-- `kvm_export::put_place` meets its contract: a row with a subleaf, one without, or none.
use mathlib.Core.List.{[]}
use native.Mathlib.Omega.{arith}
use Rattle.kvm_export.specs.RunRowLaws.{run_indexed, run_whole, run_absent, run_length}
use Rattle.kvm_export.proofs.put_place.Goals as goal

pub put_row-requires : goal.put_row-requires
put_row-requires c =
    omega (arith, run_length c.args.run c.args.k c.args.r [] 0 c.if-present.true)

pub returns-then-run : goal.returns-then-run
returns-then-run c =
    run_indexed _ _ _ _ _ c.if-present.true c.if-run.true c.put_row.ensures

pub put_row-requires-then-present : goal.put_row-requires-then-present
put_row-requires-then-present c =
    omega (arith, run_length c.args.run c.args.k c.args.r [] 0 c.if-present.true)

pub returns-then-present : goal.returns-then-present
returns-then-present c =
    run_whole _ _ _ _ _ c.if-present.true c.if-run.false c.put_row-then-present.ensures

pub returns : goal.returns
returns c = run_absent _ _ _ _ _ c.if-present.false
