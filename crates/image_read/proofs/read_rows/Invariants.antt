-- `image_read::read_rows` meets its contract. The invariant: the runs that are left follow one another from the place that reading has come to.
use Rattle.std.proofs.Common.{◌≡◌, true, ℕ, drop}
use Rattle.masking.specs.RunOrderLaws.{in_order}
use Rattle.image_read.specs.ReadingLaws.{Reading}
use Rattle.image_read.proofs.read_rows.Given as goal

abbrev pub invariant-loop-run : goal.invariant-loop-run
invariant-loop-run l = (i : ℕ) × (in_order i (drop l.run-index l.run-items) ≡ true) × Reading l.bytes l.at i l.registers l.origins
