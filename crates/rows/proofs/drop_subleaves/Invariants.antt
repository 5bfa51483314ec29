-- `drop_subleaves` meets its contract: a turn takes the lowest subleaf that is left of the mask, and drops what stands before it where it stays.
use Rattle.rows.specs.DropLaws.{Running}
use Rattle.rows.proofs.drop_subleaves.Given as goal

abbrev pub invariant-loop-rest : goal.invariant-loop-rest
invariant-loop-rest l = Running l.initial.registers l.initial.origins l.mask l.k l.registers l.origins l.rest

abbrev pub decreases-loop-rest : goal.decreases-loop-rest
decreases-loop-rest l = l.rest
