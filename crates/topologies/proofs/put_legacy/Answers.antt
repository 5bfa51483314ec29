-- `topologies::put_legacy` meets its contract: one law a return.
use mathlib.Core.Path.{ap}
use native.Mathlib.Omega.{arith}
use lib.ListN.{length}
use Rattle.topologies.specs.ShortLaws.{zero_as, at_legacy, at_last}
use Rattle.topologies.specs.CountLaws.{single_length, zero_length}
use Rattle.topologies.specs.TopologyWriteLaws.{wrote_none, wrote_as, wrote_join}
use Rattle.topologies.proofs.put_legacy.Goals as goal

pub put-second-requires : goal.put-second-requires
put-second-requires c =
    (omega arith, omega arith, omega arith, omega arith, omega arith, omega (arith, zero_length c.args.nc c.if-nc-eq0.true))

pub put-third-requires : goal.put-third-requires
put-third-requires c =
    let at = c.put-second.ensures.index in
    let three = zero_length c.args.nc c.if-nc-eq0.true in
    (omega arith, omega arith, omega arith, omega arith, omega arith, omega (arith, at, c.put-second.auto.out, single_length 0 0 0 0 0, three))

pub put_counted-requires : goal.put_counted-requires
put_counted-requires c =
    let at = c.put-second.ensures.index in
    let then = c.put-third.ensures.index in
    let one = single_length 0 0 0 0 0 in
    let two = single_length 0 0 1 0 0 in
    let three = zero_length c.args.nc c.if-nc-eq0.true in
    (omega arith, omega arith, omega arith, omega (arith, then, c.put-third.auto.out, at, c.put-second.auto.out, one, two, three))

pub returns-then-nc-eq0 : goal.returns-then-nc-eq0
returns-then-nc-eq0 c =
    wrote_as (zero_as c.args.nc c.if-nc-eq0.true)
    (wrote_join (wrote_join c.put-second.ensures c.put-third.ensures) c.put_counted.ensures)

pub put_counted-requires-then-nc-lt255 : goal.put_counted-requires-then-nc-lt255
put_counted-requires-then-nc-lt255 c =
    let whole = at_legacy c.args.nc c.if-nc-eq0.false (omega (arith, c.if-nc-lt255.true)) in
    (omega arith, c.requires.0, omega (arith, c.if-nc-lt255.true), omega (arith, ap length whole))

pub returns-then-nc-lt255 : goal.returns-then-nc-lt255
returns-then-nc-lt255 c =
    wrote_as (at_legacy c.args.nc c.if-nc-eq0.false (omega (arith, c.if-nc-lt255.true))) c.put_counted-then-nc-lt255.ensures

pub returns : goal.returns
returns c = wrote_as (at_last c.args.nc c.if-nc-lt255.false) (wrote_none _ _)
