-- `image::write::put_components` meets its contract: a turn writes the row of the lowest component that is left.
use Rattle.image.specs.PutLaws.{Putting}
use Rattle.image.proofs.write.put_components.Given as goal

abbrev pub invariant-loop-rest : goal.invariant-loop-rest
invariant-loop-rest l = Putting l.registers l.origins l.components l.initial.out l.from l.out l.at l.rest

abbrev pub decreases-loop-rest : goal.decreases-loop-rest
decreases-loop-rest l = l.rest
