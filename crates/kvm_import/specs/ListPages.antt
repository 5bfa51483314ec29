-- Document 02, P2, what reading makes: "two pages, leaf Dh rows on page 1 and all others on page 0, in list order, function as EAX_IN and index as
-- ECX_IN under either flag, each count its page's rows, all other bytes 0."
use Rattle.std.specs.Prelude.{List, [], ◌∷◌, ◌++◌, ℕ, ◌-◌, ◌*◌, length, replicate}
use Rattle.kvm_list.specs.Words.{bytes_of_words}
use Rattle.kvm_list.specs.Format.{ListRow}
use Rattle.kvm_import.specs.ListChecks.{rows_on0, rows_on1}

-- "function as EAX_IN and index as ECX_IN under either flag": the twelve words of an entry
abbrev pub entry_words : ListRow → List ℕ
entry_words r =
    r.leaf
    ∷ r.index
    ∷ 0
    ∷ 0
    ∷ 0
    ∷ 0
    ∷ r.registers.eax
    ∷ r.registers.ebx
    ∷ r.registers.ecx
    ∷ r.registers.edx
    ∷ 0
    ∷ 0
    ∷ []

unfoldable pub entries_words : List ListRow → List ℕ
entries_words [] = []
entries_words (r ∷ rs) = entry_words r ++ entries_words rs

-- "each count its page's rows, all other bytes 0": 1,024 words
unfoldable pub page_words : List ListRow → List ℕ
page_words rs = length rs ∷ 0 ∷ 0 ∷ 0 ∷ (entries_words rs ++ replicate (1020 - 12 * length rs) 0)

unfoldable pub pages_of : List ListRow → List ℕ
pages_of rs = bytes_of_words (page_words (rows_on0 rs)) ++ bytes_of_words (page_words (rows_on1 rs))
