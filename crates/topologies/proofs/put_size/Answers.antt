-- `topologies::put_size` meets its contract. The invariant: the inputs of the nc passed are written.
use mathlib.Core.Path.{◌≡◌}
use native.Mathlib.Omega.{arith}
use Rattle.topologies.specs.Topologies.{accepted_at, accepted_of}
use Rattle.topologies.specs.TopologyWriteLaws.{wrote_first, wrote_next, wrote_room}
use Rattle.topologies.proofs.put_size.Goals as goal

pub loop-nc-init : goal.loop-nc-init
loop-nc-init c = wrote_first _ _ _

pub put_inputs-at-requires : goal.put_inputs-at-requires
unfolding accepted_of
put_inputs-at-requires c =
    let room = wrote_room (accepted_at c.args.s) _ _ c.loop-nc.nc 256 (omega arith) c.requires.1 c.loop-nc.invariant in
    (c.requires.0, omega arith, room)

pub loop-nc-preserved : goal.loop-nc-preserved
loop-nc-preserved c = wrote_next (accepted_at c.args.s) _ _ c.loop-nc.invariant c.put_inputs-at.ensures

pub returns : goal.returns
unfolding accepted_of
returns c = let all : c.loop-nc.nc ≡ 256 = omega arith in rw all at c.loop-nc.invariant
