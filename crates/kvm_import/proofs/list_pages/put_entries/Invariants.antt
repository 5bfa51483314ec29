-- `kvm_import::list_pages::put_entries` meets its contract. Invariant: the bytes still to be stored are unchanged.
use Rattle.kvm_import.specs.ListEntriesLaws.{Entering}
use Rattle.kvm_import.proofs.list_pages.put_entries.Given as goal

abbrev pub invariant-loop-q : goal.invariant-loop-q
invariant-loop-q l = Entering l.list l.initial.out l.out l.q l.extended
