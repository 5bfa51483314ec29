-- `topologies::put_counted` meets its contract: one input, and a second one where v is above 1.
use native.Mathlib.Omega.{arith}
use Rattle.topologies.specs.ShortLaws.{counted_two, counted_one}
use Rattle.topologies.specs.CountLaws.{single_length, two_length, some_length}
use Rattle.topologies.specs.TopologyWriteLaws.{wrote_as, wrote_join}
use Rattle.topologies.proofs.put_counted.Goals as goal

pub put-second-requires : goal.put-second-requires
put-second-requires c =
    let a = c.args in
    (c.requires.0, c.requires.1, c.requires.2, omega arith, omega arith, omega (arith, some_length a.s a.nc a.v))

pub put-requires : goal.put-requires
put-requires c =
    let a = c.args in
    let one = single_length a.s a.nc a.v 1 0 in
    let two = two_length a.s a.nc a.v (omega (arith, c.if-v-gt1.true)) in
    let at = c.put-second.ensures.index in
    (c.requires.0, c.requires.1, c.requires.2, omega arith, omega arith, omega (arith, at, c.put-second.auto.out, one, two))

pub returns-then-v-gt1 : goal.returns-then-v-gt1
returns-then-v-gt1 c =
    let a = c.args in
    wrote_as (counted_two a.s a.nc a.v (omega (arith, c.if-v-gt1.true)))
    (wrote_join c.put-second.ensures c.put.ensures)

pub returns : goal.returns
returns c =
    let a = c.args in
    wrote_as (counted_one a.s a.nc a.v (omega (arith, c.if-v-gt1.false))) c.put-second.ensures
