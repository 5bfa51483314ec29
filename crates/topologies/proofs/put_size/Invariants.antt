-- `topologies::put_size` meets its contract. The invariant: the inputs of the nc passed are written.
use Rattle.topologies.specs.Gather.{gather}
use Rattle.topologies.specs.Topologies.{accepted_at}
use Rattle.topologies.specs.TopologyWriteLaws.{Wrote}
use Rattle.topologies.proofs.put_size.Given as goal

abbrev pub invariant-loop-nc : goal.invariant-loop-nc
invariant-loop-nc l = Wrote l.initial.out l.first (gather l.nc (accepted_at l.s)) l.out l.at
