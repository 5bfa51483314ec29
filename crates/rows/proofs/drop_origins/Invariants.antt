-- `drop_origins` meets its contract: what is left to be made zeros gives what all gives.
use Rattle.std.proofs.Common.{◌≡◌, ◌-◌, length}
use Rattle.rows.specs.Finished.{empty_origins}
use Rattle.rows.proofs.drop_origins.Given as goal

abbrev pub invariant-loop-k : goal.invariant-loop-k
invariant-loop-k l = (empty_origins (l.to - l.k) l.k l.origins ≡ empty_origins (l.to - l.from) l.from l.initial.origins) × (length l.origins ≡ 88)
