-- `kvm_import::list_pages::put_entry` meets its contract: five stores, each after the one before.
use Rattle.kvm_import.proofs.ListEntriesLaws.{entry_done}
use Rattle.kvm_import.proofs.list_pages.put_entry.Goals as goal

pub returns : goal.returns
returns c =
    entry_done _ _ _ _
    c.word_at.ensures
    c.word_at-2.ensures
    c.registers_at.ensures
    c.put_word.ensures
    c.put_word-2.ensures
    c.put_zeros.ensures
    c.put_registers.ensures
    c.put_zeros-2.ensures
