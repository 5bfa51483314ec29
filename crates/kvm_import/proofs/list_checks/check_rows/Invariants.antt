-- `kvm_import::list_checks::check_rows` meets its contract. The invariant: the rows that are left decide over the fields, and with `extended` make
-- the count of leaf Dh's rows.
use mathlib.Core.Path.{◌≡◌}
use Prim.Native.Nat.{◌+◌, ◌≤◌}
use lib.ListN.{length}
use Rattle.kvm_list.specs.Format.{rows_listed}
use Rattle.kvm_import.specs.ListChecks.{all_lawful, fields_lawful, rows_on1}
use Rattle.kvm_import.specs.RowsLeftLaws.{list_rows_left}
use Rattle.kvm_import.proofs.list_checks.check_rows.Given as goal

abbrev pub invariant-loop-q : goal.invariant-loop-q
invariant-loop-q l = record {
  few : l.extended ≤ l.q;
  lawful : all_lawful (list_rows_left l.list l.q) ≡ fields_lawful l.list;
  counted : l.extended + length (rows_on1 (list_rows_left l.list l.q)) ≡ length (rows_on1 (rows_listed l.list));
}
