-- `topologies::put_all` meets its contract. The invariant: the inputs of the sizes passed are written.
use Rattle.topologies.specs.Gather.{gather}
use Rattle.topologies.specs.Topologies.{accepted_of}
use Rattle.topologies.specs.TopologyWriteLaws.{Wrote}
use Rattle.topologies.proofs.put_all.Given as goal

abbrev pub invariant-loop-s : goal.invariant-loop-s
invariant-loop-s l = Wrote l.initial.out 0 (gather l.s accepted_of) l.out l.at
