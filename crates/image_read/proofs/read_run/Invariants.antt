-- `image_read::read_run` meets its contract. The invariant: the rows of the places before the run's `k`-th are read, and `at` is the index after them.
use Rattle.std.proofs.Common.{◌+◌}
use Rattle.image_read.specs.ReadingLaws.{Reading}
use Rattle.image_read.proofs.read_run.Given as goal

abbrev pub invariant-loop-k : goal.invariant-loop-k
invariant-loop-k l = Reading l.bytes l.at (l.run.first + l.k) l.registers l.origins
