-- `topologies::put_inputs` meets its contract: one law a return.
use mathlib.Core.Path.{ap}
use native.Mathlib.Omega.{arith}
use lib.ListN.{length}
use lib.Pow.{pow_mono}
use Rattle.topology.specs.TopologyLaws.{one_shifted}
use Rattle.topologies.specs.ShortLaws.{at_sized, at_beyond}
use Rattle.topologies.specs.TopologyWriteLaws.{wrote_none, wrote_as}
use Rattle.topologies.proofs.put_inputs.Goals as goal

pub put_counted-requires : goal.put_counted-requires
put_counted-requires c =
    let a = c.args in
    let power = one_shifted a.s (omega arith) in
    let whole = at_sized a.s a.nc _ power c.if-s-eq0.false c.requires.0 c.if-nc-v.true in
    (omega arith, c.requires.1, omega (arith, power, pow_mono {i = a.s} {j = 7} (omega arith)), omega (arith, ap length whole))

pub returns-then-nc-v : goal.returns-then-nc-v
returns-then-nc-v c =
    let a = c.args in
    wrote_as (at_sized a.s a.nc _ (one_shifted a.s (omega arith)) c.if-s-eq0.false c.requires.0 c.if-nc-v.true)
    c.put_counted.ensures

pub returns : goal.returns
returns c =
    let a = c.args in
    wrote_as (at_beyond a.s a.nc _ (one_shifted a.s (omega arith)) c.if-s-eq0.false c.requires.0 c.if-nc-v.false) (wrote_none _ _)
