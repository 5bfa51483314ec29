-- `guest_state::is_allowed` meets its contract: the three tests are those of the definition.
use Rattle.guest_state.specs.State.{allowed}
use Rattle.guest_state.proofs.is_allowed.Goals as goal

pub returns : goal.returns
unfolding allowed
returns c = rw (c.has_bit64-x87.ensures, c.is_within-user.ensures, c.is_within-supervisor.ensures)
