-- `kvm_import::list_pages::put_pages` meets its contract: the stores on page 0 and those on page 1, each page's one after another.
use native.Mathlib.Omega.{arith}
use Rattle.kvm_import.proofs.PagesLaws.{pages_done}
use Rattle.kvm_import.proofs.list_pages.put_pages.Goals as goal

pub returns : goal.returns
returns c =
    pages_done _ _ (omega arith) (omega arith) (omega arith) (omega arith)
    c.put_count.ensures
    c.put_count-2.ensures
    c.put_entries.ensures
    c.put_zeros.ensures
    c.put_zeros-2.ensures
