-- Lists for and from KVM as bytes: rows of server A's list that have a subleaf, flag 1; and a list of two rows read into any buffer with room.
use Rattle.std.specs.Prelude.{◌≡◌, refl, List, [], ◌∷◌, ◌++◌, ℕ, ◌≤◌, length, take, drop, Ok}
use Rattle.std.proofs.Common.{ap, arith, le-leb}
use Rattle.bits.specs.Lists.{tabulate, keep_if}
use Rattle.table.specs.declared.CpuidResults.{CpuidResults}
use Rattle.build.specs.Build.{answer}
use Rattle.buffer.specs.Front.{write_front}
use Rattle.kvm_list.specs.Words.{bytes_of_words}
use Rattle.kvm_list.specs.Format.{all_words, list_bytes, row_at, rows_listed}
use Rattle.kvm_import.specs.ListChecks.{bad_list_length, all_lawful, fields_lawful, rows_on0, rows_on1, rows_fit}
use Rattle.kvm_import.specs.TwoRows.{two_rows, page0, page1, two_pages}
use Rattle.kvm_import.specs.Import.{list_verdict, read_list}
use Rattle.kvm_export.specs.Export.{rows_from, list_rows, list_of}
use Rattle.page_sets.specs.PageSets.{server_a}
use Rattle.page_sets.specs.PassLaws.{verdict_passed, table_passed}
use Rattle.page_sets.specs.Evaluation.{first_edition, passed}

-- ---- rows with a subleaf: function, index, flags 1, EAX, EBX, ECX, EDX and three zero words

-- the sixth row is B.1: one processor, so EAX 0, EBX 1, ECX 201h, EDX 0
pub row_of_b_1 : take 40 (drop 208 (list_of (answer first_edition server_a).table))
    ≡ 0xB ∷ 0 ∷ 0 ∷ 0 ∷ 1 ∷ 0 ∷ 0 ∷ 0 ∷ 1 ∷ 0 ∷ 0 ∷ 0
    ∷ 0 ∷ 0 ∷ 0 ∷ 0 ∷ 1 ∷ 0 ∷ 0 ∷ 0 ∷ 0x01 ∷ 0x02 ∷ 0 ∷ 0 ∷ 0 ∷ 0 ∷ 0 ∷ 0
    ∷ 0 ∷ 0 ∷ 0 ∷ 0 ∷ 0 ∷ 0 ∷ 0 ∷ 0 ∷ 0 ∷ 0 ∷ 0 ∷ 0 ∷ []
unfolding passed server_a list_of list_rows rows_from list_bytes all_words bytes_of_words
row_of_b_1 = ap (λ (t : CpuidResults). take 40 (drop 208 (list_of t))) (table_passed first_edition server_a (verdict_passed first_edition server_a))

-- the ninth is D.2, EAX 100h, EBX 240h
pub row_of_d_2 : take 40 (drop 328 (list_of (answer first_edition server_a).table))
    ≡ 0xD ∷ 0 ∷ 0 ∷ 0 ∷ 2 ∷ 0 ∷ 0 ∷ 0 ∷ 1 ∷ 0 ∷ 0 ∷ 0
    ∷ 0 ∷ 0x01 ∷ 0 ∷ 0 ∷ 0x40 ∷ 0x02 ∷ 0 ∷ 0 ∷ 0 ∷ 0 ∷ 0 ∷ 0 ∷ 0 ∷ 0 ∷ 0 ∷ 0
    ∷ 0 ∷ 0 ∷ 0 ∷ 0 ∷ 0 ∷ 0 ∷ 0 ∷ 0 ∷ 0 ∷ 0 ∷ 0 ∷ 0 ∷ []
unfolding passed server_a list_of list_rows rows_from list_bytes all_words bytes_of_words
row_of_d_2 = ap (λ (t : CpuidResults). take 40 (drop 328 (list_of t))) (table_passed first_edition server_a (verdict_passed first_edition server_a))

-- ---- the list of two rows of crates/kvm_import/specs/TwoRows.antt

two_lawful : list_verdict two_rows ≡ Ok tt
unfolding list_verdict bad_list_length fields_lawful all_lawful rows_fit rows_listed row_at rows_on0 rows_on1 tabulate keep_if
two_lawful = refl

two_long : length (page0 ++ page1) ≡ 8192
two_long = refl

-- bytes that fit, at the front
whole : (bytes buffer : List ℕ) (n : ℕ) → length bytes ≡ n → n ≤ length buffer
    → write_front bytes buffer ≡ record { answer = Ok n; buffer = bytes ++ drop n buffer }
unfolding write_front
whole bytes buffer n e l = let h : length bytes ≤ length buffer = omega arith in rw (le-leb (length bytes) (length buffer) h, e)

-- into any buffer that has room: these two pages, and lent bytes beyond them as they were
pub two_rows_read : (buffer : List ℕ) → 8192 ≤ length buffer
    → read_list two_rows buffer ≡ record { answer = Ok 8192; buffer = (page0 ++ page1) ++ drop 8192 buffer }
unfolding read_list
two_rows_read buffer h = rw (two_lawful, two_pages) (whole (page0 ++ page1) buffer 8192 two_long h)
