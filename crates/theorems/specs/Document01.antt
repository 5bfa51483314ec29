-- Document 01, sentence by sentence: the page to read first.
--
-- crates/letter/specs/Paper.antt quotes the sentences in order and says each in the paper's own figures; here is that the answers are these, for any
-- page bytes s and any choices. `answer` (crates/build/specs/Build.antt), `write`, `image`, `lookup` and `output` are what the contracts promise of
-- the code: of how they are defined nothing has to be believed, since the equations below determine them.
use Rattle.std.specs.Prelude.{◌≡◌, refl, Bool, false, not, ◌&&◌, ◌||◌, List, [], ◌∷◌, map, ◌↔◌, ℕ, ◌+◌, ◌*◌, ◌^◌, ◌≤◌, ◌<◌, length, Err, None, Ok, Option, Some}
use Rattle.std.proofs.Common.{sym, ap, ◌∙◌}
use Rattle.bits.specs.Choice.{pick}
use Rattle.bits.specs.Lists.{tabulate, keep_if}
use Rattle.bits.specs.Bits.{bit, Within}
use Rattle.x86defs.specs.declared.CpuidResult.{CpuidResult}
use Rattle.x86defs.specs.Functions.{function, cpuid_result}
use Rattle.pages.specs.Layout.{Entry}
use Rattle.pages.specs.Entries as Entries
use Rattle.masking.specs.Kept.{leaf_at, masks_at}
use Rattle.masking.specs.Place.{made_here}
use Rattle.topology.specs.Topology.{Inputs, inputs}
use Rattle.topology.specs.declared.TopologyError.TheVariants.{ThreadsPerUnit}
use Rattle.table.specs.declared.Choices.{Choices}
use Rattle.table.specs.declared.CpuidResults.{CpuidResults}
use Rattle.table.specs.declared.Refusal.{Refusal}
use Rattle.table.specs.declared.Refusal.TheVariants.{MissingRequiredResult, TopologyInconsistent}
use Rattle.table.specs.Refusal.{details}
use Rattle.table.specs.Rows.{Row, vacant}
use Rattle.table.specs.Table.{row_in}
use Rattle.finish.specs.Finish.{rule_at}
use Rattle.finish.specs.Kinds.{kinds_at, from_entry, EntryAtLeast, TableAtLeast}
use Rattle.finish.specs.Kinds.Kind.{feature, feature_but28, area, freed, other}
use Rattle.checks.specs.ExtendedState.{xfem as xfemIn, combined_mask}
use Rattle.collect.specs.FirstEntries.{first_at, rows_of}
use Rattle.collect.specs.Lawful.{lawful_verdict}
use Rattle.build.specs.Build.{answer}
use Rattle.lookup.specs.Lookup.{lookup}
use Rattle.image.specs.Image.{image}
use Rattle.image.specs.Write.{write}
use Rattle.program.specs.Output.{output}
use Rattle.counts.specs.CountsProof.{single_page_refused}
use Rattle.counts.proofs.CountsProof.{rows_at_most}
use Rattle.letter.specs.Paper.{read_entries, counted, first, xfem, combined, entry_of, name, required, first_missing, masked, masks_of, topology, hyperthreading, processor_count, processors, least_from, is_kept, lines, lines_of, combined_of, count_from, without, from_d2, further_bits, Equations, verdict, table, rows_verdict, carried, lawful, registers, written, wrote, find, find_after, program}
use Rattle.letter.specs.Names.{sub_at}
use Rattle.letter.proofs.FirstProof as Firsts
use Rattle.letter.specs.CountedProof as Counted
use Rattle.letter.proofs.VerdictProof.{verdict_by_figures, lawful_same, own_masks}
use Rattle.letter.proofs.DeterminedProof as Determined
use Rattle.letter.specs.ImageProof as Images
use Rattle.letter.proofs.ImageProof as ImagesLaws
use Rattle.letter.specs.ImageProof.{told}
use Rattle.letter.proofs.LookupProof as Lookups
use Rattle.letter.specs.RegistersProof as Registers
use Rattle.letter.proofs.LengthProof as Counts
use Rattle.page_sets.specs.PageSets.{server_a, server_without_d12}
use Rattle.page_sets.specs.Evaluation.{first_edition}
use Rattle.examples.specs.Computed as Computed
use Rattle.examples.specs.RowsOfA as RowsOfA

-- ======== "Page bytes", "Corners of snp.rs"

-- which entries are read and which count
pub entries_by_the_letter : (s : List ℕ) → (Entries.entries s ≡ read_entries s) × (Entries.counted s ≡ counted s)
entries_by_the_letter s = (Counted.entries_same s, Counted.counted_same s)

-- "So a single page is never accepted."
pub single_page_by_the_letter : (chosen : Choices) (s : List ℕ) → length s ≡ 4096 → verdict chosen s ≡ Ok tt → ⊥
single_page_by_the_letter chosen s n e = single_page_refused chosen s n (verdict_by_figures chosen s ∙ e)

-- ======== "Corners of mod.rs", "Corners of masking.rs", "Where each check stands"

-- the verdict on any page bytes, with its details: demand 1
pub verdict_by_the_letter : (chosen : Choices) (s : List ℕ) → (answer chosen s).verdict ≡ verdict chosen s
verdict_by_the_letter = verdict_by_figures

-- the table of any page bytes, every row, every register, the count and the mask: demand 2
pub table_by_the_letter : (chosen : Choices) (s : List ℕ) → (answer chosen s).table ≡ table chosen s
table_by_the_letter = Lookups.table_by_the_letter

-- the same register by register: the equations of an accepted page set's table hold of its table and of no other
pub table_determined : (chosen : Choices) (s : List ℕ) → (answer chosen s).verdict ≡ Ok tt
    → (t : CpuidResults) → Equations chosen s t ↔ (t ≡ (answer chosen s).table)
table_determined = Determined.determined

-- each row under its leaf and subleaf: `told` lists what stands at the 88 places, each with its leaf and subleaf. crates/letter/specs/ImageProof.antt
pub rows_by_the_letter : (chosen : Choices) (s : List ℕ) → (answer chosen s).verdict ≡ Ok tt → told (row_in (answer chosen s).table) ≡ lines_of chosen s
rows_by_the_letter = ImagesLaws.rows_by_figures

-- "All others are filtered.": what the entries of another leaf or subleaf hold, or that there are some, changes no row and no verdict
pub others_filtered : (n : ℕ) (avic : Bool) (e : ℕ → Option ℕ → CpuidResult) (f : ℕ → Option ℕ → Row)
    → (lines n avic (λ l k. pick (is_kept l k) (e l k) (cpuid_result 0 0 0 0)) ≡ lines n avic e)
    × (rows_verdict avic (λ l k. pick (is_kept l k) (f l k) vacant) ≡ rows_verdict avic f)
others_filtered n avic e f = (Registers.rows_filtered n avic e, Registers.verdict_filtered avic f)

-- "after masking only bits 0, 1, 2, 5, 6, 7, 11, 12 can be set"
pub combined_bits : (chosen : Choices) (s : List ℕ) → (answer chosen s).verdict ≡ Ok tt
    → Within (combined_of chosen s) (2 ^ 0 + 2 ^ 1 + 2 ^ 2 + 2 ^ 5 + 2 ^ 6 + 2 ^ 7 + 2 ^ 11 + 2 ^ 12)
combined_bits = Counts.bits_said

-- "An accepted table has 17 rows without subleaf, 9 with, and one for each combined bit from 2 up: 26 to 32.": 17 and 9 are always there, 62 more are
-- D.2 to D.63; `further_bits` counts the combined bits from 2 up
pub rows_17_and_9 : (n : ℕ) (avic : Bool) (e : ℕ → Option ℕ → CpuidResult)
    → count_from 0 (λ l. without l.subleaf && l.row.present) (lines n avic e)
    ∷ count_from 0 (λ l. not (without l.subleaf || from_d2 l.leaf l.subleaf) && l.row.present) (lines n avic e)
    ∷ count_from 0 (λ l. from_d2 l.leaf l.subleaf) (lines n avic e)
    ∷ []
    ≡ 17 ∷ 9 ∷ 62 ∷ []
rows_17_and_9 = Registers.rows_with_and_without

pub rows_26_to_32 : (chosen : Choices) (s : List ℕ) → (answer chosen s).verdict ≡ Ok tt
    → ((answer chosen s).table.row_count ≡ 26 + further_bits (combined_of chosen s)) × ((answer chosen s).table.row_count ≤ 32)
rows_26_to_32 chosen s e = (Counts.rows_said chosen s e, rows_at_most chosen s e)

-- the number of each refusal, and what it names
pub numbers_by_the_letter : (r : Refusal) → details r ≡ carried r
numbers_by_the_letter = Images.carried_same

-- 9, and every lent byte, for any page bytes and any buffer
pub write_by_the_letter : (chosen : Choices) (s buffer : List ℕ) → write chosen s buffer ≡ wrote (verdict chosen s) (written (lines_of chosen s)) buffer
write_by_the_letter = ImagesLaws.write_by_figures

-- ======== "Feature registers of demand 3"

-- which pages of B are lawful
pub lawful_by_the_letter : (s : List ℕ) → lawful_verdict s ≡ lawful s
lawful_by_the_letter = lawful_same

-- "B's own XFEM, XSS and combined mask are what the rules above make of its masked first entries D.0 and D.1, also where B is refused.": of any page
-- bytes that have an entry for every required leaf
pub own_masks_by_the_letter : (avic : Bool) (s : List ℕ) → first_missing avic (first (counted s)) required ≡ Ok tt
    → (xfemIn (rows_of avic s) ≡ xfem (masked avic (entry_of s))) × (combined_mask (rows_of avic s) ≡ combined (masked avic (entry_of s)))
own_masks_by_the_letter = own_masks

-- which registers are features, over the 88 rows. "Demand 3 is due whole with the first delivery that builds a table from page bytes.":
-- RiseTheorems.antt has it, and `rise_by_the_letter` there asks of B's entries what is said here.
pub registers_by_the_letter : tabulate 88 (λ i. record { leaf = (leaf_at i).0; subleaf = sub_at i; kinds = kinds_at i }) ≡ registers
registers_by_the_letter = Registers.registers_same

-- "for every row of A's table but 0 and 80000000h, a first counted entry" (demand 3): the rows of which no entry is asked, the first counted entry of
-- each other row, and the masks under which entries are compared, over the 88 rows
pub rows_without_entry : map (λ (i : ℕ). name (leaf_at i).0 (sub_at i)) (keep_if (λ i. not (from_entry (rule_at i))) (tabulate 88 (λ i. i)))
    ≡ name 0x0 None ∷ name 0x80000000 None ∷ []
rows_without_entry = Registers.made_rows

pub first_entries_by_the_letter : (s : List ℕ) (i : ℕ) → i < 88 → made_here i ≡ false
    → first_at i (Entries.counted s) ≡ first (counted s) (leaf_at i).0 (sub_at i)
first_entries_by_the_letter s i l m =
    Firsts.first_same i l m (Entries.counted s) ∙ ap (λ (es : List Entry). first es (leaf_at i).0 (sub_at i)) (Counted.counted_same s)

pub masks_by_the_letter : (avic : Bool) → tabulate 88 (masks_at avic) ≡ tabulate 88 (λ i. masks_of avic (leaf_at i).0 (sub_at i))
masks_by_the_letter = Registers.masks_same

-- "Entries are compared as masked." ""At least" means every bit set in A's; "no smaller" is unsigned." "Bit 28 of 1.EDX is equal, in entries and
-- tables." Here entries, then tables, by kind; RiseTheorems.antt has demand 3 over them.
pub entries_compared : (a b : ℕ)
    → EntryAtLeast feature a b ∷ EntryAtLeast feature_but28 a b ∷ EntryAtLeast area a b ∷ EntryAtLeast freed a b ∷ EntryAtLeast other a b ∷ []
    ≡ Within a b ∷ (Within a b × (bit 28 a ≡ bit 28 b)) ∷ Unit {0} ∷ Unit {0} ∷ (a ≡ b) ∷ []
entries_compared a b = refl

pub tables_compared : (a b : ℕ)
    → TableAtLeast feature a b ∷ TableAtLeast feature_but28 a b ∷ TableAtLeast area a b ∷ TableAtLeast freed a b ∷ TableAtLeast other a b ∷ []
    ≡ Within a b ∷ (Within a b × (bit 28 a ≡ bit 28 b)) ∷ (a ≤ b) ∷ (a ≡ b) ∷ (a ≡ b) ∷ []
tables_compared a b = refl

-- ======== "Image and lookup"

pub image_by_the_letter : (chosen : Choices) (s : List ℕ) → (answer chosen s).verdict ≡ Ok tt → image (answer chosen s).table ≡ written (lines_of chosen s)
image_by_the_letter = ImagesLaws.image_by_figures

-- "Length 582 + 25 for each combined bit from 2 up"
pub length_by_the_letter : (chosen : Choices) (s : List ℕ) → (answer chosen s).verdict ≡ Ok tt
    → length (image (answer chosen s).table) ≡ 582 + 25 * further_bits (combined_of chosen s)
length_by_the_letter = Counts.length_said

-- any leaf, any subleaf or none, enforcing or not, of any page bytes
pub lookup_by_the_letter : (chosen : Choices) (s : List ℕ) (l : ℕ) (k : Option ℕ) (enforce : Bool)
    → lookup (answer chosen s).table (function l) k enforce ≡ find_after (verdict chosen s) (lines_of chosen s) l k enforce
lookup_by_the_letter = Lookups.lookup_by_the_letter

-- what the program writes, for any input
pub program_by_the_letter : (s : List ℕ) → output s ≡ program s
program_by_the_letter = ImagesLaws.program_by_figures

-- ======== Examples

-- "The Rust adds nc + 1 in eight bits and overflows at 255. The AMD manual means 256, and that decides. With s = 1 to 7 the unchecked Rust would
-- accept it.": nc = 255 is refused by 7 for s = 0, where lps = 0, and for s = 1 to 7, where lps = 2^s
pub nc_255 : topology (inputs 0 255 0 1 0) ∷ tabulate 7 (λ k. topology (inputs (1 + k) 255 (2 ^ (1 + k)) 1 0))
    ≡ processor_count 0 ∷ tabulate 7 (λ k. processor_count (1 + k))
unfolding topology tabulate
nc_255 = refl

-- T1 to T10 of "Rows to prove", by the paper's own topology: verdicts, then B.1's EAX and EBX of those that are accepted, T3 with P5's shift.
-- BuildingTheorems.antt has all fourteen marked rows.
pub topology_rows :
    map topology
    (inputs 0 0 0 0 0
    ∷ inputs 0 0 2 0 0
    ∷ inputs 0 2 3 1 0
    ∷ inputs 0 255 0 1 0
    ∷ inputs 7 127 128 1 1
    ∷ inputs 7 128 128 1 0
    ∷ inputs 7 127 128 0 0
    ∷ inputs 8 0 0 0 1
    ∷ inputs 15 0 0 0 0
    ∷ inputs 0 0 1 1 1
    ∷ [])
    ≡ Ok tt
    ∷ hyperthreading 0
    ∷ (Ok tt)
    ∷ processor_count 0
    ∷ (Ok tt)
    ∷ processor_count 7
    ∷ hyperthreading 7
    ∷ (Ok tt)
    ∷ (Ok tt)
    ∷ Err (TopologyInconsistent ThreadsPerUnit)
    ∷ []
unfolding topology
topology_rows = refl

abbrev levels : Inputs → List ℕ
levels i = least_from (processors i) 0 32 ∷ processors i ∷ []

pub level_figures :
    map levels (inputs 0 0 0 0 0 ∷ inputs 0 2 3 1 0 ∷ inputs 7 127 128 1 1 ∷ inputs 8 0 0 0 1 ∷ inputs 15 0 0 0 0 ∷ [])
    ≡ (0 ∷ 1 ∷ []) ∷ (2 ∷ 3 ∷ []) ∷ (7 ∷ 128 ∷ []) ∷ (8 ∷ 256 ∷ []) ∷ (15 ∷ 32768 ∷ []) ∷ []
unfolding least_from
level_figures = refl

-- server A is accepted; its rows 0, 1, 7.0, D.0 and 80000008h in figures, and no row 80000000h under an enforced subleaf.
-- crates/examples/specs/RowsOfA.antt
pub a_by_the_letter : verdict first_edition server_a ≡ Ok tt
a_by_the_letter = sym (verdict_by_figures first_edition server_a) ∙ Computed.server_a_accepted

pub a_rows_by_the_letter : RowsOfA.asked (find (lines_of first_edition server_a)) ≡ RowsOfA.figures
a_rows_by_the_letter = RowsOfA.by_the_letter

-- one that 3 refuses for D.12: no row is found, and the program's bytes
pub without_d12_by_the_letter : verdict first_edition server_without_d12 ≡ Err (MissingRequiredResult (function 0xD) (Some 12))
without_d12_by_the_letter = sym (verdict_by_figures first_edition server_without_d12) ∙ Computed.without_refused

pub without_d12_bytes : program server_without_d12 ≡ 3 ∷ 3 ∷ 0xD ∷ 0 ∷ 0 ∷ 0 ∷ 12 ∷ 0 ∷ 0 ∷ 0 ∷ 0 ∷ []
without_d12_bytes = RowsOfA.without_d12_bytes
