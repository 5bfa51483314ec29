-- `guest::put_seen` meets its contract: its five stores are those of the definition.
use lib.Dec.{lit<}
use Rattle.guest.specs.Guest.{version_seen, level_seen, size_seen}
use Rattle.memory.specs.MemoryLaws.{put_rowed, rowed}
use Rattle.guest.proofs.GuestTableLaws.{shown, seen_stored}
use Rattle.guest.proofs.put_seen.Goals as goal

pub returns : goal.returns
returns c =
    seen_stored c.args.registers.now c.args.origins.now c.args.processor c.args.size c.save_register-area.ensures
    (shown c.args.registers.now c.args.origins.now c.args.processor (version_seen c.args.processor) 1 (lit< tt) c.is_there.ensures c.row_at-version.ensures c.see_version-seen.ensures)
    (shown c.args.registers.now c.args.origins.now c.args.processor (level_seen c.args.processor) 4 (lit< tt) c.is_there-2.ensures c.row_at-threads.ensures c.see_level-seen.ensures)
    (shown c.args.registers.now c.args.origins.now c.args.processor (level_seen c.args.processor) 5 (lit< tt) c.is_there-3.ensures c.row_at-cores.ensures c.see_level-seen-2.ensures)
    (shown c.args.registers.now c.args.origins.now c.args.processor (size_seen c.save_register-area.result) 6 (lit< tt) c.is_there-4.ensures c.row_at-subleaf0.ensures c.see_size-seen.ensures)
    (shown c.args.registers.now c.args.origins.now c.args.processor (size_seen c.args.size) 7 (lit< tt) c.is_there-5.ensures c.row_at-subleaf1.ensures c.see_size-seen-2.ensures)
    (put_rowed 7 c.see_size-seen-2.result (lit< tt) c.put_row-5.ensures
    (put_rowed 6 c.see_size-seen.result (lit< tt) c.put_row-4.ensures
    (put_rowed 5 c.see_level-seen-2.result (lit< tt) c.put_row-3.ensures
    (put_rowed 4 c.see_level-seen.result (lit< tt) c.put_row-2.ensures
    (put_rowed 1 c.see_version-seen.result (lit< tt) c.put_row.ensures (rowed c.args.registers.now c.told-registers))))))
