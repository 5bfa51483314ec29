-- Building: any page bytes end in one table or one refusal, each under exactly its condition.
-- `answer chosen s` is the answer of the definition (crates/build/specs/Build.antt) to the page bytes s under what the caller chooses.
use Rattle.std.specs.Prelude.{◌≡◌, refl, Bool, true, false, List, [], ◌∷◌, map, ℕ, ◌+◌, ◌*◌, ◌≤◌, ◌<◌, eqb, length, get_or, Err, None, Ok, Option, Some}
use Rattle.std.proofs.Common.{eqb-true}
use Rattle.x86defs.specs.Functions.{function, cpuid_result, VersionAndFeatures, ExtendedStateEnumeration}
use Rattle.x86defs.specs.declared.CpuidFunction.{CpuidFunction}
use Rattle.table.specs.declared.Choices.{Choices}
use Rattle.table.specs.declared.Refusal.{Refusal}
use Rattle.table.specs.declared.Refusal.TheVariants.{ReservedBytes, PagesLength, MissingRequiredResult, SaveAreaOverflow}
use Rattle.table.specs.declared.CpuidResults.{CpuidResults}
use Rattle.bits.specs.Lists.{keep_if}
use Rattle.bits.specs.SearchLaws.{every_at}
use Rattle.pages.specs.declared.CpuidPageIndex.{CpuidPageIndex}
use Rattle.pages.specs.declared.ParsedCpuidEntry.{ParsedCpuidEntry}
use Rattle.pages.specs.Layout.{entry_at}
use Rattle.pages.specs.Entries.{entries, counted}
use Rattle.pages.specs.Parsed.{parsed, counts_read}
use Rattle.pages.specs.Walk.{first_index}
use Rattle.build.specs.Build.{answer}
use Rattle.pages.specs.Read.{read_at, given}
use Rattle.pages.specs.ReadLaws.{read_entry}
use Rattle.pages.proofs.ReadLaws.{reader_gives, reader_gives_counted, reader_gives_clean}
use Rattle.lookup.specs.Lookup.{lookup}
use Rattle.lookup.proofs.LookupLaws.{empty_finds_nothing}
use Rattle.image.specs.Image.{image}
use Rattle.refusals.specs.Exactly.{BuildsExactly, WritesExactly}
use Rattle.refusals.proofs.ExactlyProof.{builds_exactly, writes_exactly}
use Rattle.counts.specs.Counts.{Counted}
use Rattle.counts.specs.CountsProof.{rows_counted, single_page_refused}
use Rattle.counts.proofs.CountsProof.{rows_at_most, bytes_at_most}
use Rattle.images.specs.Images.{ImageAscends, EqualImages}
use Rattle.images.specs.AscendLaws.{image_ascends}
use Rattle.images.specs.ImagesProof.{equal_images}
use Rattle.rise.specs.Rise.{RiseHypothesis}
use Rattle.compare.specs.declared.registers.Register.TheVariants.{Ecx}
use Rattle.compare.specs.declared.Compared.TheVariants.{Rises as Yes, RefusedA, UnlawfulB, NoEntry, Differs}
use Rattle.compare.specs.Compare.{compared}
use Rattle.pages.specs.Reserved.{eight_zeros, clean, all_clean}
use Rattle.letter.specs.Paper.{entry}
use Rattle.examples.specs.Unclean as Unclean
use Rattle.page_sets.specs.Evaluation.{first_edition}
use Rattle.page_sets.specs.PageSets.{server_a, server_b, server_without_d12, server_with_large_d6}
use Rattle.examples.specs.Computed as Computed
use Rattle.examples.specs.Compared as Pairs
use Rattle.examples.specs.MarkedRows.{marked, marked_rows}
use Rattle.examples.specs.MarkedRows.Shown.{core, refusal, area, supervisor}

-- ---- Demand 1. crates/refusals/specs/Conditions.antt has each condition by itself, Exactly.antt the two records.

-- For each refusal that building gives, 15, 1, 2, 17 and 3 to 8: given if and only if its condition holds and no earlier one does; accepted if and
-- only if none holds.
pub each_refusal_exactly : (chosen : Choices) (s : List ℕ) → BuildsExactly chosen s
each_refusal_exactly = builds_exactly

-- Refusal 9 likewise; every lent byte as it was for all of them; an accepted write leaves the bytes beyond the image.
pub each_write_exactly : (chosen : Choices) (s buffer : List ℕ) → WritesExactly chosen s buffer
each_write_exactly = writes_exactly

-- a refused table has no row to find, whatever is asked. crates/lookup/specs/Lookup.antt
pub refused_finds_nothing : (chosen : Choices) (s : List ℕ) (r : Refusal) → (answer chosen s).verdict ≡ Err r
    → (leaf : CpuidFunction) (sub : Option ℕ) (enforce : Bool) → lookup (answer chosen s).table leaf sub enforce ≡ None
refused_finds_nothing chosen s r e leaf sub enforce = rw ((builds_exactly chosen s).empty r e) (empty_finds_nothing leaf sub enforce)

-- ---- P10, reserved bytes of an entry. crates/pages/specs/Reserved.antt: `all_clean` says that the eight reserved bytes of every entry below its
-- page's count are zero. It is part of what lawful pages are (`lawful_verdict`, crates/collect/specs/Lawful.antt), which demand 3, the comparison and
-- P9 ask.

-- "The reader promises from now on, with each entry, that these bytes are zero": what it gives as an entry is the one that stands there, by document
-- 01's offsets, and its eight bytes from 40 on are zero. crates/pages/specs/ReadLaws.antt; `read_at` is what `pages::reader::take` promises
pub each_entry_read_is_clean : (s : List ℕ) (i : CpuidPageIndex) (e : ParsedCpuidEntry) → Ok e ≡ read_at s i
    → (e ≡ parsed (entry s i.page_index i.function_index))
    × ((k : ℕ) → k < 8 → get_or s (4096 * i.page_index + 16 + 48 * i.function_index + 40 + k) 0 ≡ 0)
unfolding entry_at eight_zeros
each_entry_read_is_clean s i e r = ((read_entry s i r).0, λ k l. eqb-true _ _ (every_at zero_at 8 (read_entry s i r).1 k l))
  where
    zero_at : ℕ → Bool
    zero_at k = eqb (get_or s (4096 * i.page_index + 16 + 48 * i.function_index + 40 + k) 0) 0

-- server A's first entry as it is read: leaf 1
pub a_first_entry_read : read_at server_a (record { page_index = 0; function_index = 0 })
    ≡ Ok (record { page = 0; leaf = function 1; subleaf = 0; result = cpuid_result 0xA00F11 0x10000 0x3ED83203 0x178BFBFF })
unfolding read_at server_a entry_at eight_zeros
a_first_entry_read = refl

-- of clean pages every entry that a reader gives is clean: the entries whose reserved bytes are zero are all of them
pub reader_gives_clean_entries : (s : List ℕ) (n : ℕ) → length (entries s) ≤ n → all_clean s ≡ true
    → given s n (first_index s) ≡ map parsed (keep_if (clean s) (entries s))
reader_gives_clean_entries = reader_gives_clean

-- Examples: server A is clean; with an entry of a filtered leaf that is not, 17 names the leaf, and the comparison too; above the count it is not
-- tested; 17 comes before 3, names the first, and comes after a later page's 2. crates/examples/specs/Unclean.antt
pub a_clean : all_clean server_a ≡ true
a_clean = Unclean.server_a_clean

pub unclean_filtered : (answer first_edition (Unclean.with_unclean 23)).verdict ≡ Err (ReservedBytes (function 0x40000000))
unclean_filtered = Unclean.filtered_refused

pub unclean_compared : compared first_edition server_a (Unclean.with_unclean 23) ≡ UnlawfulB (ReservedBytes (function 0x40000000))
unclean_compared = Unclean.a_to_unclean

pub unclean_unused : (answer first_edition (Unclean.with_unclean 22)).verdict ≡ Ok tt
unclean_unused = Unclean.unused_accepted

pub unclean_before_missing : (answer first_edition Unclean.two_unclean).verdict ≡ Err (ReservedBytes (function 0xD))
unclean_before_missing = Unclean.two_refused

-- ---- The page reader in the source's form. crates/pages/specs/Read.antt.

-- asked often enough, a new reader gives the entries of the pages, each once and in order, and then the end; those that by what it gives
-- count are the counted entries, each once and in order
pub reader_in_order : (s : List ℕ) (n : ℕ) → length (entries s) ≤ n
    → (given s n (first_index s) ≡ map parsed (entries s)) × (keep_if counts_read (given s n (first_index s)) ≡ map parsed (counted s))
reader_in_order s n l = (reader_gives s n l, reader_gives_counted s n l)

-- ---- Counts. crates/counts/specs/Counts.antt.

-- 26 rows and one for each combined bit from 2 up, at most 32; an image of 582 bytes and 25 for each such bit
pub counts : (chosen : Choices) (s : List ℕ) → (answer chosen s).verdict ≡ Ok tt → Counted chosen s
counts = rows_counted

pub at_most_32_rows : (chosen : Choices) (s : List ℕ) → (answer chosen s).verdict ≡ Ok tt → (answer chosen s).table.row_count ≤ 32
at_most_32_rows = rows_at_most

pub at_most_732_bytes : (chosen : Choices) (s : List ℕ) → (answer chosen s).verdict ≡ Ok tt → length (image (answer chosen s).table) ≤ 732
at_most_732_bytes = bytes_at_most

-- page 1 is missing, and with it Dh
pub single_page_never_accepted : (chosen : Choices) (s : List ℕ) → length s ≡ 4096 → (answer chosen s).verdict ≡ Ok tt → ⊥
single_page_never_accepted = single_page_refused

-- ---- P1: leaves in rising order. crates/table/specs/Order.antt, crates/images/specs/Images.antt.

-- in the image of any table each row is below the next by leaf and subleaf, unsigned
pub rows_ascend : (t : CpuidResults) → ImageAscends t
rows_ascend = image_ascends

-- two accepted page sets, each under a choice of its own, have equal images if and only if their rows and combined masks are equal
pub images_tell_tables : EqualImages
images_tell_tables = equal_images

-- ---- Examples. crates/page_sets/specs/PageSets.antt has five page sets, byte by byte.

-- two whole pages
pub a_whole_set : length server_a ≡ 8192
a_whole_set = Computed.server_a_length

pub a_accepted : (answer first_edition server_a).verdict ≡ Ok tt
a_accepted = Computed.server_a_accepted

-- B meets the hypothesis with more features, and is accepted with a larger mask
pub b_rises : RiseHypothesis first_edition server_a server_b
b_rises = Computed.server_b_rises

pub b_accepted : (answer first_edition server_b).verdict ≡ Ok tt
b_accepted = Computed.server_b_accepted

pub b_richer : (answer first_edition server_a).table.max_extended_state ∷ (answer first_edition server_b).table.max_extended_state ∷ [] ≡ 0x7 ∷ 0x18E7 ∷ []
b_richer = Computed.masks

-- two more that meet it, one refused by 3 and one by 5
pub without_d12_rises : RiseHypothesis first_edition server_a server_without_d12
without_d12_rises = Computed.without_rises

pub without_d12_refused : (answer first_edition server_without_d12).verdict ≡ Err (MissingRequiredResult ExtendedStateEnumeration (Some 12))
without_d12_refused = Computed.without_refused

pub large_d6_rises : RiseHypothesis first_edition server_a server_with_large_d6
large_d6_rises = Computed.large_rises

pub large_d6_refused : (answer first_edition server_with_large_d6).verdict ≡ Err SaveAreaOverflow
large_d6_refused = Computed.large_refused

-- a comparison that says yes, and one for each way to say no
pub a_to_b : compared first_edition server_a server_b ≡ Yes
a_to_b = Pairs.a_to_b

pub b_to_a : compared first_edition server_b server_a ≡ Differs VersionAndFeatures None Ecx
b_to_a = Pairs.b_to_a

pub b_to_without_d12 : compared first_edition server_b server_without_d12 ≡ NoEntry ExtendedStateEnumeration (Some 12)
b_to_without_d12 = Pairs.b_to_without_d12

pub from_large_d6 : compared first_edition server_with_large_d6 server_b ≡ RefusedA SaveAreaOverflow
from_large_d6 = Pairs.from_large_d6

pub a_to_none : compared first_edition server_a [] ≡ UnlawfulB PagesLength
a_to_none = Pairs.a_to_none

-- ---- The fourteen marked rows of document 01, T1 to T10, X1 to X3 (two figures) and C1. crates/examples/specs/MarkedRows.antt.

pub fourteen_rows : marked
    ≡ core 0 1
    ∷ refusal 6
    ∷ core 2 3
    ∷ refusal 7
    ∷ core 7 128
    ∷ refusal 7
    ∷ refusal 6
    ∷ core 8 256
    ∷ core 15 32768
    ∷ refusal 8
    ∷ area 576
    ∷ area 832
    ∷ refusal 5
    ∷ area 0xFFFFFFFF
    ∷ supervisor 0 false
    ∷ []
fourteen_rows = marked_rows
