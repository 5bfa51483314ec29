-- Document 01, "Corners of snp.rs": entries at positions below the page's count are read, pages in order; empty pages are passed over.
-- A Dh entry counts only on page 1; on page 0, 2 and later it is skipped.
use Rattle.std.specs.Prelude.{Bool, not, ◌||◌, List, [], ◌∷◌, ◌++◌, ℕ, zero, suc, eqb}
use Rattle.bits.specs.Lists.{keep_if}
use Rattle.x86defs.specs.declared.CpuidFunction.{CpuidFunction}
use Rattle.x86defs.specs.Functions.{same_function, ExtendedStateEnumeration}
use Rattle.pages.specs.Layout.{Entry, entry_at, count_of, pages_in}

-- the n entries of page p from position q on
unfoldable pub on_page : List ℕ → ℕ → ℕ → ℕ → List Entry
on_page s p q zero = []
on_page s p q (suc n) = entry_at s p q ∷ on_page s p (suc q) n

-- the entries of the n pages from page p on
unfoldable pub on_pages : List ℕ → ℕ → ℕ → List Entry
on_pages s p zero = []
on_pages s p (suc n) = on_page s p 0 (count_of s p) ++ on_pages s (suc p) n

-- every entry below its page's count, in order
unfoldable pub entries : List ℕ → List Entry
entries s = on_pages s 0 (pages_in s)

-- whether an entry of leaf l counts on page p
abbrev pub counts_on : ℕ → CpuidFunction → Bool
counts_on p l = not (same_function l ExtendedStateEnumeration) || eqb p 1

-- whether an entry counts where it stands
unfoldable pub counts : Entry → Bool
counts e = counts_on e.page e.leaf

-- the counted entries, in order
unfoldable pub counted : List ℕ → List Entry
counted s = keep_if counts (entries s)
