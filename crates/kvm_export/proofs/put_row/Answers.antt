-- `kvm_export::put_row` meets its contract: five stores, each after the one before.
use Rattle.kvm_export.specs.RunRowLaws.{row_done}
use Rattle.kvm_export.proofs.put_row.Goals as goal

pub returns : goal.returns
returns c =
    row_done _ _ _ _ _ _
    c.put_word.ensures
    c.put_word-2.ensures
    c.put_word-3.ensures
    c.put_registers.ensures
    c.put_zeros.ensures
