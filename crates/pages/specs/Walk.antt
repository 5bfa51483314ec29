-- The walk over the entries, by `CpuidPageIndex` as snp.rs has it. Document 01, "Corners of snp.rs": entries at positions below the page's
-- count are read, pages in order; empty pages are passed over, also first, last and several running.
use Rattle.std.specs.Prelude.{◌≡◌, Bool, ◌&&◌, List, [], ◌++◌, ℕ, ◌+◌, ◌-◌, ◌<◌, eqb, ltb}
use Rattle.bits.specs.Choice.{pick}
use Rattle.bits.specs.Search.{Failing, lowest}
use Rattle.bits.specs.Search.Failing.{at, none}
use Rattle.pages.specs.declared.CpuidPageIndex.{CpuidPageIndex}
use Rattle.pages.specs.Layout.{Entry, pages_in, count_of}
use Rattle.pages.specs.Entries.{on_page, on_pages}

-- position q of page p
abbrev pub index : ℕ → ℕ → CpuidPageIndex
index p q = record { page_index = p; function_index = q }

-- whether it stands on a page, below that page's count
abbrev pub is_entry : List ℕ → CpuidPageIndex → Bool
is_entry s i = ltb i.page_index (pages_in s) && ltb i.function_index (count_of s i.page_index)

-- the same as a fact
pub record Inside (s : List ℕ) (i : CpuidPageIndex) : Type 0 where
  pub page : i.page_index < pages_in s
  pub position : i.function_index < count_of s i.page_index

-- an entry of a page, and the count of that page
pub record Counted (s : List ℕ) (i : CpuidPageIndex) (n : ℕ) : Type 0 where
  pub inside : Inside s i
  pub count : n ≡ count_of s i.page_index

-- whether page p has no entry
abbrev pub is_empty : List ℕ → ℕ → Bool
is_empty s p = eqb (count_of s p) 0

-- the first position of the page that was found; the end, where none was, is that of the page after the last
abbrev pub page_start : List ℕ → Failing → CpuidPageIndex
page_start s (at p) = index p 0
page_start s none = index (pages_in s) 0

-- the first entry of page p or of a later one; the end where all of these are empty
unfoldable pub first_from : List ℕ → ℕ → CpuidPageIndex
first_from s p = page_start s (lowest (is_empty s) p (pages_in s - p))

-- an index that is no entry's goes to the first entry of a later page
unfoldable pub next_valid : List ℕ → CpuidPageIndex → CpuidPageIndex
next_valid s i = pick (is_entry s i) i (first_from s (i.page_index + 1))

-- the index of the first entry of all
abbrev pub first_index : List ℕ → CpuidPageIndex
first_index s = next_valid s (index 0 0)

-- one position on, and from there to the next entry; past the last page it stays
unfoldable pub incremented : List ℕ → CpuidPageIndex → CpuidPageIndex
incremented s i =
    pick (ltb i.page_index (pages_in s))
    (next_valid s (index i.page_index (i.function_index + 1)))
    i

-- the entries from an index on: what a walk from there has left
unfoldable pub rest : List ℕ → CpuidPageIndex → List Entry
rest s i =
    let p : ℕ = i.page_index in
    let q : ℕ = i.function_index in
    pick (ltb p (pages_in s)) (on_page s p q (count_of s p - q) ++ on_pages s (p + 1) (pages_in s - (p + 1))) []
