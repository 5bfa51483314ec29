-- `with_server` meets its contract: below the place that the loop has come to, rows are joined and flags are those found.
use Rattle.pool.specs.CodeLaws.{Joining}
use Rattle.pool.proofs.join.with_server.Given as goal

abbrev pub invariant-loop-place : goal.invariant-loop-place
invariant-loop-place l = Joining l.initial.registers l.other l.alike l.place l.registers l.out
