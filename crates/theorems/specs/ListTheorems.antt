-- Lists for and from KVM.
-- `answer chosen s` is the answer of the definition (crates/build/specs/Build.antt) to the page bytes s under what the caller chooses.
use Rattle.std.specs.Prelude.{◌≡◌, List, [], ◌∷◌, ◌++◌, ℕ, ◌+◌, ◌≤◌, length, replicate, take, drop, Err, Ok}
use Rattle.x86defs.specs.Functions.{cpuid_result}
use Rattle.table.specs.declared.Choices.{Choices}
use Rattle.table.specs.declared.Refusal.TheVariants.{BufferTooShort, ListLength, ListRows, ListFields}
use Rattle.table.specs.declared.CpuidResults.{CpuidResults}
use Rattle.bits.specs.Lists.{tabulate}
use Rattle.pages.specs.Bytes.{AreBytes}
use Rattle.build.specs.Build.{answer}
use Rattle.kvm_list.specs.Words.{bytes_of_words}
use Rattle.kvm_list.specs.Format.{list_bytes}
use Rattle.kvm_import.specs.TwoRows as TwoRows
use Rattle.kvm_import.specs.Import.{read_list}
use Rattle.kvm_export.specs.Export.{plain_row, list_rows, list_of}
use Rattle.kvm_export.specs.Flags.{flags, indexes, flags_are, indexes_are}
use Rattle.round_trip.specs.RoundTrip.{Returns, RoundTrip, ListWritesExactly}
use Rattle.round_trip.specs.RoundTripProof.{round_trip, list_writes_exactly}
use Rattle.round_trip.specs.Reads.{ReadMakes}
use Rattle.round_trip.specs.ReadsExactly.{ReadsExactly}
use Rattle.round_trip.specs.ReadsExactlyProof.{reads_exactly}
use Rattle.round_trip.proofs.ReadsExactlyProof.{read_makes}
use Rattle.round_trip.specs.Ascends.{Ascend, rows_ascend as list-ascends}
use Rattle.examples.specs.KvmLists as KvmLists
use Rattle.examples.specs.KvmBytes as KvmBytes
use Rattle.page_sets.specs.Evaluation.{first_edition}
use Rattle.page_sets.specs.PageSets.{server_a}
use Rattle.examples.specs.Computed as Computed

-- ---- Document 02, P2: lists for and from KVM. crates/kvm_list/specs/Format.antt has the list's bytes, crates/kvm_export/specs/Export.antt what is
-- written, crates/kvm_import/specs/Import.antt what is read; the statements are in crates/round_trip/specs.

-- written to one lent buffer, read into another and built again, an accepted page set gives the same answer: table and combined mask
pub kvm_round_trip : RoundTrip
kvm_round_trip = round_trip

-- the counted entries of the two pages are the list's rows, each where it counts, in list order; no byte is left open
pub kvm_read_makes : (l : List ℕ) → AreBytes l → (buffer : List ℕ) → (read_list l buffer).answer ≡ Ok 8192 → ReadMakes l buffer
kvm_read_makes = read_makes

-- writing: building's refusals, then 9 exactly where the buffer is shorter than 8 + 40 × rows; a refused write changes no lent byte
pub kvm_writes_exactly : (chosen : Choices) (s buffer : List ℕ) → ListWritesExactly chosen s buffer
kvm_writes_exactly = list_writes_exactly

-- reading: 10, 12, 11 and 9, each given if and only if its condition holds and no earlier one does; a refused read changes no lent byte
pub kvm_reads_exactly : (l buffer : List ℕ) → ReadsExactly l buffer
kvm_reads_exactly = reads_exactly

-- the rows of a list ascend by leaf, then by subleaf
pub kvm_rows_ascend : (t : CpuidResults) → Ascend (list_rows t)
kvm_rows_ascend = list-ascends

-- server A's list goes round; its head and its first row; and a list for each answer of reading
pub a_goes_round : (buffer pages : List ℕ) → 1088 ≤ length buffer → 8192 ≤ length pages → Returns first_edition server_a buffer pages
a_goes_round buffer pages h k = round_trip first_edition server_a Computed.server_a_accepted buffer pages (rw Computed.server_a_rows h) k

pub a_listed : take 48 (list_of (answer first_edition server_a).table)
    ≡ bytes_of_words (27 ∷ 0 ∷ 0 ∷ 0 ∷ 0 ∷ 0xD ∷ 0x68747541 ∷ 0x444D4163 ∷ 0x69746E65 ∷ 0 ∷ 0 ∷ 0 ∷ [])
a_listed = KvmLists.server_a_list

pub count_not_wrapped : (read_list (bytes_of_words (0xFFFFFFFF ∷ 0 ∷ [])) []).answer ≡ Err ListLength
count_not_wrapped = KvmLists.wrapped_count

pub head_word_read : (read_list (bytes_of_words (0 ∷ 1 ∷ [])) []).answer ≡ Err ListFields
head_word_read = KvmLists.head_not_zero

pub too_many_rows : (read_list (list_bytes (replicate 65 (plain_row 5 0 0 (cpuid_result 0 0 0 0)))) []).answer ≡ Err ListRows
too_many_rows = KvmLists.sixty_five

pub nothing_lent : (read_list (bytes_of_words (0 ∷ 0 ∷ [])) []).answer ≡ Err BufferTooShort
nothing_lent = KvmLists.nothing_lent

pub an_empty_list : (read_list (bytes_of_words (0 ∷ 0 ∷ [])) (replicate 8192 0xA5)).answer ≡ Ok 8192
an_empty_list = KvmLists.empty_list

-- flag 1 where the row has a subleaf, else flag and index 0, over the 88 places: 7.0, Bh and Dh, then 8000001Dh, have subleaves.
-- crates/kvm_export/specs/Flags.antt
pub flags_by_place : flags ≡ replicate 3 0 ++ replicate 67 1 ++ replicate 12 0 ++ replicate 4 1 ++ replicate 2 0
flags_by_place = flags_are

pub indexes_by_place : indexes ≡ replicate 4 0 ++ (0 ∷ 1 ∷ []) ++ tabulate 64 (λ k. k) ++ replicate 12 0 ++ (0 ∷ 1 ∷ 2 ∷ 3 ∷ []) ++ replicate 2 0
indexes_by_place = indexes_are

-- row D.2 of server A as bytes, with flag 1. crates/examples/specs/KvmBytes.antt, which has row B.1 too
pub row_of_d_2_listed : take 40 (drop 328 (list_of (answer first_edition server_a).table))
    ≡ 0xD ∷ 0 ∷ 0 ∷ 0 ∷ 2 ∷ 0 ∷ 0 ∷ 0 ∷ 1 ∷ 0 ∷ 0 ∷ 0
    ∷ 0 ∷ 0x01 ∷ 0 ∷ 0 ∷ 0x40 ∷ 0x02 ∷ 0 ∷ 0 ∷ 0 ∷ 0 ∷ 0 ∷ 0 ∷ 0 ∷ 0 ∷ 0 ∷ 0
    ∷ 0 ∷ 0 ∷ 0 ∷ 0 ∷ 0 ∷ 0 ∷ 0 ∷ 0 ∷ 0 ∷ 0 ∷ 0 ∷ 0 ∷ []
row_of_d_2_listed = KvmBytes.row_of_d_2

-- a list of two rows given as bytes, and every byte of its two pages. crates/kvm_import/specs/TwoRows.antt
pub two_rows_read : (buffer : List ℕ) → 8192 ≤ length buffer
    → read_list TwoRows.two_rows buffer ≡ record { answer = Ok 8192; buffer = (TwoRows.page0 ++ TwoRows.page1) ++ drop 8192 buffer }
two_rows_read = KvmBytes.two_rows_read
