-- `kvm_import::list_pages::put_count` meets its contract: the count, then twelve zeros.
use Rattle.kvm_import.specs.PagesLaws.{count_done}
use Rattle.kvm_import.proofs.list_pages.put_count.Goals as goal

pub returns : goal.returns
returns c = count_done _ _ _ c.put_word.ensures c.put_zeros.ensures
