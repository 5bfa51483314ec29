-- `extended_state::process_extended_state_subleaves` meets its contract: a turn takes the lowest subleaf that is left of the mask, and passes it or
-- stops there.
use borrow.Author.Rules.{rules}
use Prim.Native.Nat.{◌<◌}
use lib.Count.{count_trailing_zeros}
use Rattle.checks.specs.LowestLaws.{left_starts}
use Rattle.checks.specs.ScanLaws.{scanning_starts, scanning_taken, scanning_next, scanning_stops, scanning_ends}
use Rattle.rows.proofs.checked.extended_state.process_extended_state_subleaves.Goals as goal
use Rattle.rows.proofs.checked.extended_state.process_extended_state_subleaves.Goals.{In-loop-rest}

pub loop-rest-init : goal.loop-rest-init
loop-rest-init c = scanning_starts _ _ (left_starts _ (search rules))

inside : (c : In-loop-rest) → count_trailing_zeros 64 c.loop-rest.rest < 64
inside c = (scanning_taken _ _ c.loop-rest.invariant c.loop-rest-test.true).inside

pub loop-rest-preserved : goal.loop-rest-preserved
loop-rest-preserved c = scanning_next _ _ c.loop-rest.invariant c.loop-rest-test.true c.is_there.ensures c.if-is_there.true

pub returns-else-is_there : goal.returns-else-is_there
returns-else-is_there c = scanning_stops _ _ c.loop-rest.invariant c.loop-rest-test.true c.is_there.ensures c.if-is_there.false

pub returns : goal.returns
returns c = scanning_ends _ _ c.loop-rest.invariant c.loop-rest-test.false
