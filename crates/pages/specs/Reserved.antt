-- Document 02, P10: "A host left old data in the eight reserved bytes and the firmware document wants zero. .. XCR0_IN and XSS_IN remain unread.
-- Bytes after the count and unused entries aren't tested. .. 17 a nonzero reserved byte in an entry below its page's count, naming leaf EAX_IN
-- with no subleaf, first in page and entry order". Document 01, "Page bytes", of an entry: "8 reserved at 40".
use Rattle.std.specs.Prelude.{Bool, List, [], ◌∷◌, ℕ, ◌+◌, eqb, get_or, Err, Ok, Result}
use Rattle.bits.specs.Choice.{pick}
use Rattle.bits.specs.Search.{every}
use Rattle.pages.specs.Layout.{Entry, pages_in, count_of, entry_start}
use Rattle.pages.specs.Entries.{entries}
use Rattle.x86defs.specs.declared.CpuidFunction.{CpuidFunction}

-- the first reserved byte of an entry
abbrev pub reserved_at : ℕ
reserved_at = 40

-- whether the eight bytes at offset o are zero
unfoldable pub eight_zeros : List ℕ → ℕ → Bool
eight_zeros s o = every (λ k. eqb (get_or s (o + k) 0) 0) 8

-- whether the reserved bytes of the entry at position q of page p are zero
abbrev pub is_clean_at : List ℕ → ℕ → ℕ → Bool
is_clean_at s p q = eight_zeros s (entry_start p q + reserved_at)

-- the same of an entry, where it stands
abbrev pub clean : List ℕ → Entry → Bool
clean s e = is_clean_at s e.page e.position

-- the leaf of the first of the entries that has another byte there
unfoldable pub first_nonzero : List ℕ → List Entry → Result Unit CpuidFunction
first_nonzero s [] = Ok tt
first_nonzero s (e ∷ es) = pick (clean s e) (first_nonzero s es) (Err e.leaf)

-- over the entries below their page's count, in page and entry order
unfoldable pub reserved_of : List ℕ → Result Unit CpuidFunction
reserved_of s = first_nonzero s (entries s)

-- whether every entry below its page's count is clean: of page p, and of all pages
abbrev pub page_clean : List ℕ → ℕ → Bool
page_clean s p = every (is_clean_at s p) (count_of s p)

unfoldable pub all_clean : List ℕ → Bool
all_clean s = every (page_clean s) (pages_in s)
