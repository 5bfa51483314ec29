-- Collecting entry by entry: where an entry goes, and what a place gets of some entries.
use Rattle.std.specs.Prelude.{List, ℕ, get_or}
use Rattle.bits.specs.Choice.{pick}
use Rattle.bits.specs.Lists.{keep_if}
use Rattle.x86defs.specs.declared.CpuidResult.{CpuidResult}
use Rattle.pages.specs.declared.ParsedCpuidEntry.{ParsedCpuidEntry}
use Rattle.pages.specs.Layout.{Entry}
use Rattle.pages.specs.Parsed.{counts_read}
use Rattle.pages.specs.Entries.{counts}
use Rattle.masking.specs.Kept.{places, place_of}
use Rattle.memory.specs.Memory.{row_of}
use Rattle.memory.specs.Origin.{origin_number}
use Rattle.table.specs.Rows.{Row}
use Rattle.collect.specs.FirstEntries.{place_of_entry, first_at, word_row}
use Rattle.collect.specs.FirstEntryOrigin.{stands_at}

-- where an entry is stored: its place if it counts, else 88, past the last
unfoldable pub stored_at : Entry → ℕ
stored_at e = pick (counts e) (place_of_entry e) places

-- the same from what the reader gives of an entry
unfoldable pub counted_place : ParsedCpuidEntry → ℕ
counted_place e = pick (counts_read e) (place_of e.leaf e.subleaf) places

-- the first counted of some entries at place i, and the number of where it stands
unfoldable pub first_among : ℕ → List Entry → Row
first_among i es = first_at i (keep_if counts es)

unfoldable pub stands_among : ℕ → List Entry → ℕ
stands_among i es = origin_number (stands_at i (keep_if counts es))

-- a place in lent memory: the registers of its row, and its origin
pub record Stored : Type 0 where
  pub result : CpuidResult
  pub origin : ℕ

abbrev pub stored_in : List ℕ → List ℕ → ℕ → Stored
stored_in w o i = record { result = row_of w i; origin = get_or o i 0 }

-- what place i gets of some entries
abbrev pub to_store : ℕ → List Entry → Stored
to_store i es = record { result = (word_row (first_among i es)).result; origin = stands_among i es }
