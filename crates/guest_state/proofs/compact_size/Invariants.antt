-- `guest_state::compact_size` meets its contract: the size so far is that of the subleaves below the bits that are left, of which each turn takes the
-- lowest.
use Rattle.guest_state.specs.CompactLaws.{Placing}
use Rattle.guest_state.specs.InUse.{read_rows}
use Rattle.guest_state.proofs.compact_size.Given as goal

abbrev pub invariant-loop-rest : goal.invariant-loop-rest
invariant-loop-rest l = Placing (read_rows l.absent_as_zero l.registers l.origins) l.mask l.size l.rest

abbrev pub decreases-loop-rest : goal.decreases-loop-rest
decreases-loop-rest l = l.rest
