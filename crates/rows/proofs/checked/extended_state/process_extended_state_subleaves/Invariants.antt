-- `extended_state::process_extended_state_subleaves` meets its contract: a turn takes the lowest subleaf that is left of the mask, and passes it or
-- stops there.
use Rattle.checks.specs.ScanLaws.{Scanning}
use Rattle.rows.specs.Checked.{present_in}
use Rattle.rows.proofs.checked.extended_state.process_extended_state_subleaves.Given as goal

abbrev pub invariant-loop-rest : goal.invariant-loop-rest
invariant-loop-rest l = Scanning (present_in l.origins) l.mask l.rest

abbrev pub decreases-loop-rest : goal.decreases-loop-rest
decreases-loop-rest l = l.rest
