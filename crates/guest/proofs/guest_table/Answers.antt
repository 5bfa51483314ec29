-- `guest::guest_table` meets its contract: the state's refusal and cleared memory, or the guest's whole table.
use Rattle.guest.proofs.GuestTableLaws.{into_refused, into_given}
use Rattle.guest.proofs.guest_table.Goals as goal

pub returns-in-Err : goal.returns-in-Err
returns-in-Err c =
    into_refused c.args.registers.now c.args.origins.now c.args.processor c.state_in_use-state.ensures c.in-Err.is c.clear.ensures.0
    c.clear.ensures.1

pub returns-in-Ok : goal.returns-in-Ok
returns-in-Ok c =
    into_given c.args.registers.now c.args.origins.now c.args.processor c.state_in_use-state.ensures c.in-Ok.is c.put_seen.ensures
