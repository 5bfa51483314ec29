-- Document 02, P2, what reading refuses: "10 length under 8 or not 8 + 40 × count, then 12 a flag other than 0 or 1 or a nonzero padding word, the
-- head's zero word included, then 11 more than 64 rows for one page". The order stands with the answer, crates/kvm_import/specs/Import.antt.
use Rattle.std.specs.Prelude.{Bool, not, ◌&&◌, ◌||◌, true, List, [], ◌∷◌, ℕ, ◌+◌, ◌*◌, eqb, leb, ltb, length}
use Rattle.bits.specs.Lists.{keep_if}
use Rattle.x86defs.specs.Functions.{function, same_function, ExtendedStateEnumeration}
use Rattle.pages.specs.Layout.{most_entries}
use Rattle.kvm_list.specs.Format.{ListRow, head_size, row_size, row_count, zero_word, rows_listed}

-- "length under 8 or not 8 + 40 × count", over unbounded numbers
unfoldable pub bad_list_length : List ℕ → Bool
bad_list_length l = ltb (length l) head_size || not (eqb (length l) (head_size + row_size * row_count l))

-- "a flag other than 0 or 1 or a nonzero padding word", turned round
abbrev pub is_row_lawful : ListRow → Bool
is_row_lawful r = leb r.flags 1 && (eqb r.padding0 0 && (eqb r.padding1 0 && eqb r.padding2 0))

unfoldable pub all_lawful : List ListRow → Bool
all_lawful [] = true
all_lawful (r ∷ rs) = is_row_lawful r && all_lawful rs

-- "the head's zero word included"
unfoldable pub fields_lawful : List ℕ → Bool
fields_lawful l = eqb (zero_word l) 0 && all_lawful (rows_listed l)

-- "leaf Dh rows on page 1 and all others on page 0, in list order"
abbrev pub is_extended_state : ListRow → Bool
is_extended_state r = same_function (function r.leaf) ExtendedStateEnumeration

unfoldable pub rows_on1 : List ListRow → List ListRow
rows_on1 rs = keep_if is_extended_state rs

unfoldable pub rows_on0 : List ListRow → List ListRow
rows_on0 rs = keep_if (λ r. not (is_extended_state r)) rs

-- "more than 64 rows for one page", turned round: each page for itself
unfoldable pub rows_fit : List ListRow → Bool
rows_fit rs = leb (length (rows_on0 rs)) most_entries && leb (length (rows_on1 rs)) most_entries
