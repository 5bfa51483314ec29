-- The two pages piece by piece, as they are written. Each piece is kept opaque, so that a contract shows one list and not its bytes.
use Rattle.std.specs.Prelude.{Bool, List, ◌++◌, ℕ, ◌+◌, ◌*◌, replicate}
use Rattle.std.proofs.lemmas.List.Edits.{sets}
use Rattle.bits.specs.Choice.{pick}
use Rattle.buffer.specs.Front.{word_bytes}
use Rattle.kvm_list.specs.Words.{bytes_of_words}
use Rattle.kvm_list.specs.Format.{ListRow}
use Rattle.kvm_import.specs.ListChecks.{rows_on0, rows_on1}
use Rattle.kvm_import.specs.ListPages.{entry_words, entries_words, page_words}

-- the count and twelve zeros
unfoldable pub count_bytes : ℕ → List ℕ
count_bytes n = word_bytes n ++ replicate 12 0

unfoldable pub entry_bytes : ListRow → List ℕ
entry_bytes r = bytes_of_words (entry_words r)

unfoldable pub entries_bytes : List ListRow → List ℕ
entries_bytes rs = bytes_of_words (entries_words rs)

unfoldable pub page_bytes : List ListRow → List ℕ
page_bytes rs = bytes_of_words (page_words rs)

-- where an entry is stored: on page 1 after d others, or on page 0 after n
abbrev pub entry_index : Bool → ℕ → ℕ → ℕ
entry_index extended n d = pick extended (4112 + 48 * d) (16 + 48 * n)

-- a buffer with the entries of some rows stored on page 0 from index i on, and those of page 1 from j on
unfoldable pub entered : List ℕ → ℕ → ℕ → List ListRow → List ℕ
entered out i j rs = sets (sets out i (entries_bytes (rows_on0 rs))) j (entries_bytes (rows_on1 rs))
