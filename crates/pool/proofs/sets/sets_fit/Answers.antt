-- `pool::sets::sets_fit` meets its contract: before each turn the bytes left and those passed are all.
use Rattle.std.proofs.Common.{◌≡◌, length, sym, arith, rules}
use Rattle.pool.specs.SetsLaws.{start_first, start_next}
use Rattle.pool.proofs.SetsLaws.{too_few, too_many_lem, beyond, summed}
use Rattle.pool.proofs.sets.sets_fit.Goals as goal

pub loop-length-init : goal.loop-length-init
loop-length-init c = omega (arith, start_first c.args.lengths.now)

pub returns-then-length-left : goal.returns-then-length-left
returns-then-length-left c =
    sym (beyond c.args.pages.now c.args.lengths.now (search rules) (search rules) c.loop-length.length-index (search rules)
    (omega (arith, start_next c.args.lengths.now c.loop-length.length-index, c.loop-length.invariant)))

pub loop-length-preserved : goal.loop-length-preserved
loop-length-preserved c = omega (arith, start_next c.args.lengths.now c.loop-length.length-index, c.loop-length.invariant)

pub returns : goal.returns
returns c =
    let e : c.loop-length.length-index ≡ length c.args.lengths.now = omega arith in
    summed c.args.pages.now c.args.lengths.now (search rules) (search rules) c.loop-length.left (rw e at c.loop-length.invariant)

pub returns-then-n-lt2 : goal.returns-then-n-lt2
returns-then-n-lt2 c = sym (too_few _ _ (search rules))

pub returns-then-n-gt-MOST_SETS : goal.returns-then-n-gt-MOST_SETS
returns-then-n-gt-MOST_SETS c = sym (too_many_lem _ _ (search rules) (search rules))
