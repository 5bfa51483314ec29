-- What reading makes: the two pages' counted entries are the list's rows, each where it counts, in list order, and no byte is left open.
use Rattle.std.specs.Prelude.{◌≡◌, List, ◌++◌, map, ℕ, length, drop, Ok}
use Rattle.x86defs.specs.declared.CpuidResult.{CpuidResult}
use Rattle.pages.specs.Layout.{Entry, count_of}
use Rattle.pages.specs.Entries.{on_page, counted}
use Rattle.collect.specs.Lawful.{lawful_verdict}
use Rattle.kvm_list.specs.Format.{ListRow, rows_listed}
use Rattle.kvm_import.specs.ListChecks.{rows_on0, rows_on1}
use Rattle.kvm_import.specs.ListPages.{pages_of}
use Rattle.kvm_import.specs.Import.{read_list}

-- what an entry and a row of a list have in common: EAX_IN and function, ECX_IN and index, the registers
pub record LeafRow : Type 0 where
  pub leaf : ℕ
  pub index : ℕ
  pub registers : CpuidResult

abbrev pub of_row : ListRow → LeafRow
of_row r = record { leaf = r.leaf; index = r.index; registers = r.registers }

abbrev pub of_entry : Entry → LeafRow
of_entry e = record { leaf = e.leaf.0; index = e.subleaf; registers = e.registers }

pub record ReadMakes (l buffer : List ℕ) : Type 0 where
  -- 8,192 bytes, each given by the list's rows; lent bytes beyond stay
  pub two : length (pages_of (rows_listed l)) ≡ 8192
  pub bytes : (read_list l buffer).buffer ≡ pages_of (rows_listed l) ++ drop 8192 buffer
  -- of lawful length and counts, and clean: neither 1, 2 nor 17 applies
  pub lawful : lawful_verdict (pages_of (rows_listed l)) ≡ Ok tt
  -- page by page, and all that count
  pub page0 : map of_entry (on_page (pages_of (rows_listed l)) 0 0 (count_of (pages_of (rows_listed l)) 0)) ≡ map of_row (rows_on0 (rows_listed l))
  pub page1 : map of_entry (on_page (pages_of (rows_listed l)) 1 0 (count_of (pages_of (rows_listed l)) 1)) ≡ map of_row (rows_on1 (rows_listed l))
  pub all : map of_entry (counted (pages_of (rows_listed l))) ≡ map of_row (rows_on0 (rows_listed l)) ++ map of_row (rows_on1 (rows_listed l))
