-- Page bytes read in one pass from front to back: what is lawful of them, and their masked first entries. What was read is dropped, where the
-- definitions count each offset from the first byte, and an entry is placed_entries once, where they search the table of kept leaves for each place
-- anew; PassLaws.antt shows that the two agree.
use Rattle.std.specs.Prelude.{Bool, List, [], ◌∷◌, ◌++◌, ℕ, zero, suc, ◌*◌, eqb, ltb, leb, drop, Err, Ok, Result}
use Rattle.bits.specs.Choice.{pick}
use Rattle.bits.specs.Search.{every}
use Rattle.x86defs.specs.declared.CpuidResult.{CpuidResult}
use Rattle.x86defs.specs.Functions.{function, cpuid_result}
use Rattle.pages.specs.Layout.{Entry, page_size, entry_size, entries_at, most_entries, word_at, pages_in}
use Rattle.pages.specs.Entries.{counts}
use Rattle.pages.specs.Reserved.{reserved_at, eight_zeros}
use Rattle.masking.specs.Kept.{places}
use Rattle.table.specs.declared.Choices.{Choices}
use Rattle.table.specs.declared.CpuidResults.{CpuidResults}
use Rattle.table.specs.declared.Refusal.TheVariants.{PageCount}
use Rattle.table.specs.Refusal.{and_then}
use Rattle.table.specs.Rows.{Row, Rows, row, vacant}
use Rattle.table.specs.Table.{table_of}
use Rattle.checks.specs.ExtendedState.{combined_mask}
use Rattle.checks.specs.Checks.{refuse_unless, rows_verdict}
use Rattle.finish.specs.Finish.{finished}
use Rattle.collect.specs.FirstEntries.{place_of_entry, masked_at}
use Rattle.build.specs.Build.{edition_verdict}
use Rattle.collect.specs.Lawful.{length_verdict, clean_verdict}
use Rattle.table.specs.Verdict.{Verdict}
use Rattle.x86defs.specs.declared.CpuidFunction.{CpuidFunction}

-- ---- entries: r is what is left of the bytes

-- the entry at position q of page p, which r begins with
abbrev pub entry_in : ℕ → ℕ → List ℕ → Entry
entry_in p q r = record {
  page = p;
  position = q;
  leaf = function (word_at r 0);
  subleaf = word_at r 4;
  registers = cpuid_result (word_at r 24) (word_at r 28) (word_at r 32) (word_at r 36);
}

-- n entries of page p from position q on
unfoldable pub on_page_in : ℕ → ℕ → ℕ → List ℕ → List Entry
on_page_in p q zero r = []
on_page_in p q (suc n) r = entry_in p q r ∷ on_page_in p (suc q) n (drop entry_size r)

-- n pages from page p on
unfoldable pub on_pages_in : ℕ → ℕ → List ℕ → List Entry
on_pages_in p zero r = []
on_pages_in p (suc n) r = on_page_in p 0 (word_at r 0) (drop entries_at r) ++ on_pages_in (suc p) n (drop page_size r)

-- ---- lawfulness

-- the leaf of the first of n entries that are not clean, or what is found after them
unfoldable pub unclean_on_page : Result Unit CpuidFunction → ℕ → List ℕ → Result Unit CpuidFunction
unclean_on_page after zero r = after
unclean_on_page after (suc n) r = pick (eight_zeros r reserved_at) (unclean_on_page after n (drop entry_size r)) (Err (function (word_at r 0)))

-- the same of n pages
unfoldable pub unclean_in : ℕ → List ℕ → Result Unit CpuidFunction
unclean_in zero r = Ok tt
unclean_in (suc n) r = unclean_on_page (unclean_in n (drop page_size r)) (word_at r 0) (drop entries_at r)

-- whether no count of n pages is above 64
abbrev pub counts_fit_in : ℕ → List ℕ → Bool
counts_fit_in n s = every (λ p. leb (word_at (drop (page_size * p) s) 0) most_entries) n

unfoldable pub passed_lawful : List ℕ → Verdict
passed_lawful s =
    and_then (length_verdict s) (and_then (refuse_unless (counts_fit_in (pages_in s) s) PageCount) (clean_verdict (unclean_in (pages_in s) s)))

-- ---- rows

-- an entry's place and its registers, masked as that place has it
pub record Placed : Type 0 where
  pub place : ℕ
  pub registers : CpuidResult

unfoldable pub placed_entry : Bool → Entry → Placed
placed_entry avic e = record { place = place_of_entry e; registers = masked_at avic (place_of_entry e) e.registers }

-- those that count
unfoldable pub placed_entries : Bool → List Entry → List Placed
placed_entries avic [] = []
placed_entries avic (e ∷ es) = pick (counts e) (placed_entry avic e ∷ placed_entries avic es) (placed_entries avic es)

-- the first that stands at place i
unfoldable pub first_placed : ℕ → List Placed → Row
first_placed i [] = vacant
first_placed i (e ∷ es) = pick (eqb e.place i) (row e.registers) (first_placed i es)

unfoldable pub passed_entries : Bool → List ℕ → List Placed
passed_entries avic s = placed_entries avic (on_pages_in 0 (pages_in s) s)

unfoldable pub passed_rows : Bool → List ℕ → Rows
passed_rows avic s i = pick (ltb i places) (first_placed i (passed_entries avic s)) vacant

-- ---- the answer

abbrev pub passed_for : Choices → List ℕ → Rows
passed_for c s = passed_rows c.secure_avic s

unfoldable pub passed_verdict : Choices → List ℕ → Verdict
passed_verdict c s = and_then (edition_verdict c.edition) (and_then (passed_lawful s) (rows_verdict (passed_for c s)))

-- the table of an accepted page set
abbrev pub passed_table : Choices → List ℕ → CpuidResults
passed_table c s = table_of (finished c.edition (passed_for c s)) (combined_mask (passed_for c s))
