-- Reading as bytes (document 02, P2): a list of two rows, and every byte of the two pages that it gives. "all other bytes 0": those after a count and
-- after the entries too, which nothing reads.
use Rattle.std.specs.Prelude.{◌≡◌, refl, List, [], ◌∷◌, ◌++◌, ℕ, replicate}
use Rattle.bits.specs.Lists.{tabulate, keep_if}
use Rattle.kvm_list.specs.Words.{bytes_of_words}
use Rattle.kvm_list.specs.Format.{row_at, rows_listed}
use Rattle.kvm_import.specs.ListChecks.{rows_on0, rows_on1}
use Rattle.kvm_import.specs.ListPages.{entries_words, page_words, pages_of}

-- D.1 with flag 1, then 80000008h with flag 0 and no index
abbrev pub two_rows : List ℕ
two_rows =
    2 ∷ 0 ∷ 0 ∷ 0 ∷ 0 ∷ 0 ∷ 0 ∷ 0
    ∷ 0x0D ∷ 0 ∷ 0 ∷ 0 ∷ 1 ∷ 0 ∷ 0 ∷ 0 ∷ 1 ∷ 0 ∷ 0 ∷ 0
    ∷ 0x0F ∷ 0 ∷ 0 ∷ 0 ∷ 0x40 ∷ 0x03 ∷ 0 ∷ 0 ∷ 0x00 ∷ 0x18 ∷ 0 ∷ 0 ∷ 0 ∷ 0 ∷ 0 ∷ 0
    ∷ 0 ∷ 0 ∷ 0 ∷ 0 ∷ 0 ∷ 0 ∷ 0 ∷ 0 ∷ 0 ∷ 0 ∷ 0 ∷ 0
    ∷ 0x08 ∷ 0 ∷ 0 ∷ 0x80 ∷ 0 ∷ 0 ∷ 0 ∷ 0 ∷ 0 ∷ 0 ∷ 0 ∷ 0
    ∷ 0x30 ∷ 0x30 ∷ 0 ∷ 0 ∷ 0x1F ∷ 0xD2 ∷ 0x1E ∷ 0x11 ∷ 0 ∷ 0 ∷ 0 ∷ 0 ∷ 0x07 ∷ 0 ∷ 0x01 ∷ 0
    ∷ 0 ∷ 0 ∷ 0 ∷ 0 ∷ 0 ∷ 0 ∷ 0 ∷ 0 ∷ 0 ∷ 0 ∷ 0 ∷ 0 ∷ []

-- a page's first 16 bytes: a count of one entry, and zeros
abbrev counted : List ℕ
counted = 1 ∷ 0 ∷ 0 ∷ 0 ∷ 0 ∷ 0 ∷ 0 ∷ 0 ∷ 0 ∷ 0 ∷ 0 ∷ 0 ∷ 0 ∷ 0 ∷ 0 ∷ 0 ∷ []

-- page 0: one entry, 80000008h; all its other bytes 0
abbrev pub page0 : List ℕ
page0 =
    counted ++ (0x08 ∷ 0 ∷ 0 ∷ 0x80 ∷ 0 ∷ 0 ∷ 0 ∷ 0
    ∷ 0 ∷ 0 ∷ 0 ∷ 0 ∷ 0 ∷ 0 ∷ 0 ∷ 0 ∷ 0 ∷ 0 ∷ 0 ∷ 0 ∷ 0 ∷ 0 ∷ 0 ∷ 0
    ∷ 0x30 ∷ 0x30 ∷ 0 ∷ 0 ∷ 0x1F ∷ 0xD2 ∷ 0x1E ∷ 0x11 ∷ 0 ∷ 0 ∷ 0 ∷ 0 ∷ 0x07 ∷ 0 ∷ 0x01 ∷ 0
    ∷ 0 ∷ 0 ∷ 0 ∷ 0 ∷ 0 ∷ 0 ∷ 0 ∷ 0
    ∷ replicate 4032 0)

-- page 1: one entry, D.1
abbrev pub page1 : List ℕ
page1 =
    counted ++ (0x0D ∷ 0 ∷ 0 ∷ 0 ∷ 1 ∷ 0 ∷ 0 ∷ 0
    ∷ 0 ∷ 0 ∷ 0 ∷ 0 ∷ 0 ∷ 0 ∷ 0 ∷ 0 ∷ 0 ∷ 0 ∷ 0 ∷ 0 ∷ 0 ∷ 0 ∷ 0 ∷ 0
    ∷ 0x0F ∷ 0 ∷ 0 ∷ 0 ∷ 0x40 ∷ 0x03 ∷ 0 ∷ 0 ∷ 0x00 ∷ 0x18 ∷ 0 ∷ 0 ∷ 0 ∷ 0 ∷ 0 ∷ 0
    ∷ 0 ∷ 0 ∷ 0 ∷ 0 ∷ 0 ∷ 0 ∷ 0 ∷ 0
    ∷ replicate 4032 0)

pub two_pages : pages_of (rows_listed two_rows) ≡ page0 ++ page1
unfolding rows_listed row_at tabulate pages_of rows_on0 rows_on1 keep_if page_words entries_words bytes_of_words
two_pages = refl
