-- Lists for and from KVM, by computation: the head and the first row of server A's list, and a list for each answer of reading.
use Rattle.std.specs.Prelude.{◌≡◌, refl, true, false, ◌&&◌, List, [], ◌∷◌, ℕ, ◌<◌, eqb, length, replicate, take, Err, Ok}
use Rattle.std.proofs.Common.{sym, ap, subst, lit<}
use Rattle.bits.specs.Lists.{tabulate, keep_if}
use Rattle.x86defs.specs.Functions.{cpuid_result}
use Rattle.table.specs.declared.CpuidResults.{CpuidResults}
use Rattle.table.specs.declared.Refusal.TheVariants.{ListLength, ListRows, ListFields, BufferTooShort}
use Rattle.build.specs.Build.{answer}
use Rattle.buffer.specs.Front.{write_front}
use Rattle.kvm_list.specs.Words.{bytes_of_words}
use Rattle.kvm_list.specs.Format.{ListRow, all_words, list_bytes, rows_listed, zero_word}
use Rattle.kvm_list.specs.FormatLaws.{list_rows_lem}
use Rattle.kvm_import.specs.ListChecks.{bad_list_length, all_lawful, fields_lawful, rows_on0, rows_on1, rows_fit}
use Rattle.kvm_import.specs.ListPages.{entries_words, page_words, pages_of}
use Rattle.kvm_import.specs.Import.{list_verdict, read_list}
use Rattle.kvm_import.proofs.ImportLaws.{read_11_0}
use Rattle.kvm_export.specs.Export.{plain_row, rows_from, list_rows, list_of}
use Rattle.page_sets.specs.PageSets.{server_a}
use Rattle.page_sets.specs.PassLaws.{verdict_passed, table_passed}
use Rattle.page_sets.specs.Evaluation.{first_edition, passed}

-- 27 rows; leaf 0 has the highest leaf Dh and "Auth" "cAMD" "enti"
pub server_a_list : take 48 (list_of (answer first_edition server_a).table) ≡ bytes_of_words
    (27 ∷ 0 ∷ 0 ∷ 0 ∷ 0 ∷ 0xD ∷ 0x68747541 ∷ 0x444D4163 ∷ 0x69746E65 ∷ 0 ∷ 0 ∷ 0 ∷ [])
unfolding passed server_a list_of list_rows rows_from list_bytes all_words bytes_of_words
server_a_list = ap (λ (t : CpuidResults). take 48 (list_of t)) (table_passed first_edition server_a (verdict_passed first_edition server_a))

-- a list of words
abbrev pub listed : List ℕ → List ℕ
listed words = bytes_of_words words

-- a count of FFFFFFFFh with no row
pub wrapped_count : (read_list (listed (0xFFFFFFFF ∷ 0 ∷ [])) []).answer ≡ Err ListLength
unfolding bytes_of_words read_list list_verdict bad_list_length
wrapped_count = refl

-- the head's second word is not zero
pub head_not_zero : (read_list (listed (0 ∷ 1 ∷ [])) []).answer ≡ Err ListFields
unfolding bytes_of_words read_list list_verdict bad_list_length fields_lawful
head_not_zero = refl

-- 65 rows of leaf 5: what is read of a written list is its rows
abbrev rows65 : List ListRow
rows65 = replicate 65 (plain_row 5 0 0 (cpuid_result 0 0 0 0))

rows65_length : bad_list_length (list_bytes rows65) ≡ false
unfolding list_bytes all_words bytes_of_words bad_list_length
rows65_length = refl

rows65_fields : fields_lawful (list_bytes rows65) ≡ true
unfolding list_bytes all_words bytes_of_words fields_lawful all_lawful
rows65_fields = ap (λ (rs : List ListRow). eqb (zero_word (list_bytes rows65)) 0 && all_lawful rs) (list_rows_lem rows65 (lit< tt))

rows65_many : 64 < length (rows_on0 (rows_listed (list_bytes rows65)))
unfolding rows_on0 keep_if
rows65_many = subst (λ (rs : List ListRow). 64 < length (rows_on0 rs)) (sym (list_rows_lem rows65 (lit< tt))) (lit< tt)

pub sixty_five : (read_list (list_bytes (replicate 65 (plain_row 5 0 0 (cpuid_result 0 0 0 0)))) []).answer ≡ Err ListRows
sixty_five = sym (read_11_0 (list_bytes rows65) [] rows65_length rows65_fields rows65_many).0

-- no row: refused where nothing is lent, else two pages without an entry
pub nothing_lent : (read_list (listed (0 ∷ 0 ∷ [])) []).answer ≡ Err BufferTooShort
unfolding bytes_of_words read_list write_front list_verdict bad_list_length fields_lawful all_lawful rows_fit rows_listed rows_on0 rows_on1 tabulate keep_if pages_of page_words entries_words
nothing_lent = refl

pub empty_list : (read_list (listed (0 ∷ 0 ∷ [])) (replicate 8192 0xA5)).answer ≡ Ok 8192
unfolding bytes_of_words read_list write_front list_verdict bad_list_length fields_lawful all_lawful rows_fit rows_listed rows_on0 rows_on1 tabulate keep_if pages_of page_words entries_words
empty_list = refl
