-- `kvm_import::list_pages::put_entries` meets its contract. Invariant: the bytes still to be stored are unchanged.
use mathlib.Core.Path.{sym}
use native.Mathlib.Omega.{arith}
use Rattle.bits.specs.TestLaws.{from_bool_one}
use Rattle.kvm_import.proofs.ListEntriesLaws.{entering_first, entering_room, entering_next, entering_last}
use Rattle.kvm_import.proofs.list_pages.put_entries.Goals as goal

pub put_entry-requires : goal.put_entry-requires
put_entry-requires c =
    let room = entering_room c.args.list.now c.args.out.now (omega arith) (omega arith) c.loop-q.out c.loop-q.q c.loop-q.extended (omega arith) c.loop-q.invariant
    c.is_extended_state-here.result (sym c.is_extended_state-here.ensures) in
    (omega arith, omega (arith, c.entry_index-at.ensures, room, c.loop-q.invariant.size))

pub loop-q-preserved : goal.loop-q-preserved
loop-q-preserved c =
    let next =
    entering_next c.args.list.now c.args.out.now (omega arith) (omega arith) c.loop-q.out c.loop-q.q c.loop-q.extended (omega arith) c.loop-q.invariant
    c.is_extended_state-here.result (sym c.is_extended_state-here.ensures)
    c.put_entry.new.out (rw (← c.entry_index-at.ensures) c.put_entry.ensures) in
    rw (c.from-extended.ensures, from_bool_one c.is_extended_state-here.result) next

pub loop-q-init : goal.loop-q-init
loop-q-init c = entering_first _ _

pub returns : goal.returns
returns c = entering_last _ _ _ _ _ (omega arith) c.loop-q.invariant
