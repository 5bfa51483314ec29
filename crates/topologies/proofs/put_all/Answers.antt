-- `topologies::put_all` meets its contract. The invariant: the inputs of the sizes passed are written.
use mathlib.Core.Path.{◌≡◌}
use native.Mathlib.Omega.{arith}
use Rattle.topologies.specs.Topologies.{accepted_of, accepted_inputs}
use Rattle.topologies.specs.TopologyWriteLaws.{wrote_first, wrote_next, wrote_room}
use Rattle.topologies.proofs.put_all.Goals as goal

pub loop-s-init : goal.loop-s-init
loop-s-init c = wrote_first _ _ _

pub put_size-at-requires : goal.put_size-at-requires
unfolding accepted_inputs
put_size-at-requires c =
    (omega arith, wrote_room accepted_of _ _ c.loop-s.s 8 (omega arith) (omega (arith, c.requires)) c.loop-s.invariant)

pub loop-s-preserved : goal.loop-s-preserved
loop-s-preserved c = wrote_next accepted_of _ _ c.loop-s.invariant c.put_size-at.ensures

pub returns : goal.returns
unfolding accepted_inputs
returns c = let all : c.loop-s.s ≡ 8 = omega arith in rw all at c.loop-s.invariant
