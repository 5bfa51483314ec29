-- `kvm_import::list_checks::is_extended_state` meets its contract: the row's first word against leaf Dh.
use Rattle.kvm_import.specs.ListRowLaws.{row_page}
use Rattle.kvm_import.proofs.list_checks.is_extended_state.Goals as goal

pub returns : goal.returns
returns c = row_page _ _ c.word_at.ensures
