-- `drop_rows` meets its contract: what is left to be made zeros gives what all gives.
use Rattle.std.proofs.Common.{◌≡◌, ◌-◌}
use Rattle.rows.specs.Finished.{empty_rows}
use Rattle.rows.proofs.drop_rows.Given as goal

abbrev pub invariant-loop-k : goal.invariant-loop-k
invariant-loop-k l = empty_rows (l.to - l.k) l.k l.registers ≡ empty_rows (l.to - l.from) l.from l.initial.registers
