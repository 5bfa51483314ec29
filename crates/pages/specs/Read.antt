-- What a reader gives, as `SnpCpuidIterator` of snp.rs steps over the pages: the entries below each page's count, in order. Document 02, P10: "The
-- reader promises from now on, with each entry, that these bytes are zero, and everything above it relies on that." They are the reserved ones.
use Rattle.std.specs.Prelude.{◌≡◌, Bool, true, List, [], ◌∷◌, ℕ, zero, suc, ltb, Err, Ok, Result}
use Rattle.bits.specs.Choice.{pick}
use Rattle.pages.specs.declared.CpuidPageIndex.{CpuidPageIndex}
use Rattle.pages.specs.declared.ParsedCpuidEntry.{ParsedCpuidEntry}
use Rattle.pages.specs.Layout.{Entry, pages_in, counts_fit, entry_at}
use Rattle.pages.specs.Parsed.{parsed}
use Rattle.pages.specs.Walk.{Inside, incremented}
use Rattle.pages.specs.Reserved.{is_clean_at}
use Rattle.x86defs.specs.declared.CpuidFunction.{CpuidFunction}

-- what a reader asks where it stands: the counts are lawful, and an entry is there
pub record Readable (s : List ℕ) (i : CpuidPageIndex) : Type 0 where
  pub lawful : counts_fit s ≡ true
  pub inside : Inside s i

-- the entry that stands at an index, and whether its reserved bytes are zero
abbrev pub entry_here : List ℕ → CpuidPageIndex → Entry
entry_here s i = entry_at s i.page_index i.function_index

abbrev pub clean_here : List ℕ → CpuidPageIndex → Bool
clean_here s i = is_clean_at s i.page_index i.function_index

-- what it gives: the entry there, where they are; the entry's leaf, where one is not
unfoldable pub read_at : List ℕ → CpuidPageIndex → Result ParsedCpuidEntry CpuidFunction
read_at s i = pick (clean_here s i) (Ok (parsed (entry_here s i))) (Err (entry_here s i).leaf)

-- the entries that it gives where it is asked at most n times, from index i, up to the end
unfoldable pub given : List ℕ → ℕ → CpuidPageIndex → List ParsedCpuidEntry
given s zero i = []
given s (suc n) i =
    pick (ltb i.page_index (pages_in s)) (parsed (entry_at s i.page_index i.function_index) ∷ given s n (incremented s i)) []
