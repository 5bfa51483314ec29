-- `image::write::put_run` meets its contract. The invariant: writing went on from the run's first place to its k-th.
use Prim.Native.Nat.{◌+◌}
use Rattle.memory.specs.Held.{held_in}
use Rattle.buffer.specs.OnwardLaws.{Onward}
use Rattle.image.specs.ImagePieces.{rows_from}
use Rattle.image.proofs.write.put_run.Given as goal

abbrev pub invariant-loop-k : goal.invariant-loop-k
invariant-loop-k l = Onward (rows_from (held_in l.registers l.origins)) l.initial.out l.from l.run.first l.out l.at (l.run.first + l.k)
