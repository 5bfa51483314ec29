-- The numbers that the exported functions give and take (include/snp_cpuid.h), field by field.
--
-- They are said against the definition's answers, in figures and fields alone, so that no change of the functions that make the numbers goes unseen.
-- crates/answers/specs/Told.antt has each statement's words, among them one table of the refusals' numbers and details, `RefusalTold`. Which
-- statement says what each of the 33 functions returns:
--
--   snp_cpuid_build, snp_cpuid_table_build, snp_cpuid_fingerprint   `build_told`
--   snp_cpuid_lookup, snp_cpuid_guest_lookup                   `build_lookup_told`, `guest_lookup_told`
--   snp_cpuid_pool_lookup, snp_cpuid_table_find                `pool_lookup_told`, `lookup_told`
--   snp_cpuid_guest_build, snp_cpuid_table_guest               `guest_build_told`
--   snp_cpuid_table_guest_find, snp_cpuid_table_guest_find_kept, snp_cpuid_table_state   `guest_found_told`, `found_told`, `state_told`
--   snp_cpuid_write_image, snp_cpuid_write_guest_image, snp_cpuid_write_pool_image, snp_cpuid_table_write_image   `written_told`
--   snp_cpuid_write_kvm, snp_cpuid_table_write_kvm, snp_cpuid_read_kvm, snp_cpuid_write_topologies                `written_told`
--   snp_cpuid_table_read_image, snp_cpuid_table_counts, snp_cpuid_table_fingerprint   `read_told`, `counts_told`, `counts_told`
--   snp_cpuid_compare, snp_cpuid_table_compare                 `compared_told`, `tables_compared_told`
--   snp_cpuid_first_entry, snp_cpuid_nearest                   `first_told`, `nearest_told`
--   snp_cpuid_carry, snp_cpuid_table_carry                     `carried_told`, `verdict_told` (its number)
--   snp_cpuid_pool, snp_cpuid_table_pool                       `pooled_told`
--   snp_cpuid_write_line, snp_cpuid_read_line                  `line_written_told`, `line_read_told`
use Rattle.std.specs.Prelude.{◌≡◌, refl, Bool, true, List, ℕ, ◌+◌, ◌*◌, Err, Ok, Option, Result, Some}
use Rattle.x86defs.specs.Functions.{function, cpuid_result}
use Rattle.table.specs.declared.Choices.{Choices}
use Rattle.table.specs.declared.CpuidResults.{CpuidResults}
use Rattle.table.specs.declared.Refusal.TheVariants.{MissingRequiredResult, TopologyInconsistent, CompactSizeTooLarge}
use Rattle.table.specs.Table.{empty_table}
use Rattle.topology.specs.declared.TopologyError.TheVariants.{ProcessorCount}
use Rattle.memory.specs.Origin.{origin_read}
use Rattle.collect.specs.declared.FirstEntry.{FirstEntry}
use Rattle.build.specs.declared.Built.{Built}
use Rattle.build.specs.Build.{answer}
use Rattle.lookup.specs.Lookup.{lookup, lookup_origin}
use Rattle.guest.specs.declared.Processor.{Processor}
use Rattle.guest.specs.declared.GuestAnswer.{GuestAnswer}
use Rattle.guest.specs.GuestPages.{guest_pages}
use Rattle.compare.specs.declared.registers.Register.TheVariants.{Ecx}
use Rattle.compare.specs.declared.Compared.{Compared}
use Rattle.compare.specs.declared.Compared.TheVariants.{Differs}
use Rattle.compare.specs.declared.search.RowsCompared.{RowsCompared as TablesCompared}
use Rattle.pool.specs.declared.Pooled.{Pooled}
use Rattle.table.specs.Numbers.{numbers_of}
use Rattle.answers.specs.Answers.{choices_of, processor_of, built_numbers, found_numbers, found_at, guest_found_numbers, state_numbers, counts_of, read_with, written_numbers}
use Rattle.answers.specs.CarriedAnswers.{carried_numbers}
use Rattle.answers.specs.ComparedAnswers.{compared_numbers, tables_compared_numbers}
use Rattle.answers.specs.PoolAnswers.{pooled_numbers}
use Rattle.answers.specs.NearestAnswers.{nearest_numbers}
use Rattle.answers.specs.LineAnswers.{details_given, line_written_numbers, line_read_numbers}
use Rattle.answers.specs.ToldProof as Told
use Rattle.answers.specs.Told.{VerdictTold, ChoicesGiven, ProcessorGiven, SubleafGiven, DetailsGiven, HeldTold, GivenTold, FoundTold, GuestTold, StateTold, CountsTold, ReadTold, FirstTold, WrittenTold, CarriedTold, ComparedTold, TablesTold, PooledTold, NearestTold, LineWrittenTold, LineTold}
use Rattle.snp_cpuid.specs.Exports.{found_in, first_numbers}
use Rattle.snp_cpuid.specs.GuestExports.{guest_numbers, guest_found}
use Rattle.snp_cpuid.specs.PoolExports.{pooled_found}
use Rattle.buffer.specs.Written.{Written}
use Rattle.lines.specs.declared.bytes.LineDetails.{LineDetails}
use Rattle.lookup.specs.declared.FoundRow.{FoundRow}
use Rattle.nearest.specs.declared.flips.Flip.{Flip}
use Rattle.table.specs.Verdict.{Verdict}
use Rattle.table.specs.declared.Refusal.{Refusal}

-- ---- what a caller gives is what the definition is asked, each field its own

pub choices_are_the_callers : (avic : Bool) (edition : ℕ) → ChoicesGiven avic edition (choices_of avic edition)
choices_are_the_callers = Told.choices_given

pub processor_is_the_callers : (x2apic xcr0 xss : ℕ) (osxsave : Bool) → ProcessorGiven x2apic xcr0 xss osxsave (processor_of x2apic xcr0 xss osxsave)
processor_is_the_callers = Told.processor_given

pub subleaf_is_the_callers : (k : ℕ) → SubleafGiven k
subleaf_is_the_callers = Told.subleaf_given

pub details_are_the_callers : (number leaf : ℕ) (has : Bool) (subleaf s : ℕ)
    → DetailsGiven number leaf has subleaf s (details_given number leaf has subleaf s)
details_are_the_callers = Told.details_given_lem

-- ---- what a caller is given is the definition's answer

-- accepted is five zeros; a refusal is its number, leaf, has_subleaf, subleaf and s, as the table has them; and these tell one verdict
pub verdict_told : (v : Verdict)
    → VerdictTold v (numbers_of v).number (numbers_of v).leaf (numbers_of v).has_subleaf (numbers_of v).subleaf (numbers_of v).s
verdict_told = Told.verdict_in_lem

pub verdict_told_once : (v w : Verdict) (number leaf has subleaf s : ℕ) → VerdictTold v number leaf has subleaf s
    → VerdictTold w number leaf has subleaf s → v ≡ w
verdict_told_once v w number leaf has subleaf s = Told.verdict_told_once

pub build_told : (b : Built) → HeldTold b.verdict b.table (built_numbers b)
build_told = Told.built_told

pub guest_build_told : (g : GuestAnswer) → HeldTold g.verdict g.table (guest_numbers g)
guest_build_told g = Told.held_told g.verdict g.table

-- lookups: in any table, in a built one, in a guest's and in a pool's; EAX to EDX, and the origin
pub lookup_told : (t : CpuidResults) (o : List ℕ) (leaf : ℕ) (subleaf : Option ℕ) (enforce : Bool)
    → GivenTold (lookup t (function leaf) subleaf enforce) (lookup_origin o (function leaf) subleaf enforce) (found_at t o leaf subleaf enforce)
lookup_told t o leaf subleaf enforce =
    Told.given_told (lookup t (function leaf) subleaf enforce) (lookup_origin o (function leaf) subleaf enforce)

pub build_lookup_told : (b : Built) (leaf : ℕ) (subleaf : Option ℕ) (enforce : Bool)
    → GivenTold (lookup b.table (function leaf) subleaf enforce) (lookup_origin b.origins (function leaf) subleaf enforce)
    (found_in b leaf subleaf enforce)
build_lookup_told b = lookup_told b.table b.origins

pub guest_lookup_told : (chosen : Choices) (s : List ℕ) (v : Processor) (leaf : ℕ) (subleaf : Option ℕ) (enforce : Bool)
    → GivenTold (lookup (guest_pages chosen s v).table (function leaf) subleaf enforce)
    (lookup_origin (answer chosen s).origins (function leaf) subleaf enforce) (guest_found chosen s v leaf subleaf enforce)
guest_lookup_told chosen s v = lookup_told (guest_pages chosen s v).table (answer chosen s).origins

pub pool_lookup_told : (p : Pooled) (leaf : ℕ) (subleaf : Option ℕ) (enforce : Bool)
    → GivenTold (lookup p.table (function leaf) subleaf enforce) (lookup_origin p.origins (function leaf) subleaf enforce)
    (pooled_found p leaf subleaf enforce)
pool_lookup_told p = lookup_told p.table p.origins

-- a row that was found with its origin, and what a kept table's guest finds: 13, 14 or a row
pub found_told : (f : Option FoundRow) → FoundTold f (found_numbers f)
found_told = Told.found_told

pub guest_found_told : (f : Result (Option FoundRow) Refusal) → GuestTold f (guest_found_numbers f)
guest_found_told = Told.guest_told

pub state_told : (s : Result ℕ Refusal) → StateTold s (state_numbers s)
state_told = Told.state_told

pub counts_told : (t : CpuidResults) → CountsTold t (counts_of t)
counts_told = Told.counts_told

pub read_told : (b : Bool) (t : CpuidResults) → ReadTold b t (read_with b t)
read_told = Told.read_told

pub first_told : (f : FirstEntry) → FirstTold f.verdict f.origin (first_numbers f)
first_told f = Told.first_told f.verdict f.origin

pub written_told : (w : Written) → WrittenTold w (written_numbers w)
written_told = Told.written_told

pub carried_told : (c : Option Verdict) → CarriedTold c (carried_numbers c)
carried_told = Told.carried_told

pub compared_told : (c : Compared) → ComparedTold c (compared_numbers c)
compared_told = Told.compared_told

pub tables_compared_told : (c : TablesCompared) → TablesTold c (tables_compared_numbers c)
tables_compared_told = Told.tables_told

pub pooled_told : (p : Pooled) → PooledTold p (pooled_numbers p)
pooled_told = Told.pooled_told

pub nearest_told : (a : Result Flip Refusal) → NearestTold a (nearest_numbers a)
nearest_told = Told.nearest_told

pub line_written_told : (w : Option Written) → LineWrittenTold w (line_written_numbers w)
line_written_told = Told.line_written_told

pub line_read_told : (l : Option LineDetails) → LineTold l (line_read_numbers l)
line_read_told = Told.line_told

-- ---- Examples

-- 3 for D.12
pub missing_d12_told : numbers_of (Err (MissingRequiredResult (function 0xD) (Some 12)))
    ≡ record { number = 3; leaf = 0xD; has_subleaf = 1; subleaf = 12; s = 0 }
missing_d12_told = refl

-- a row of the entry at position 5 of page 1
pub row_of_page_1_told : found_numbers (Some (record { row = cpuid_result 1 2 3 4; origin = 4 + 64 * 1 + 5 }))
    ≡ record { found = 1; eax = 1; ebx = 2; ecx = 3; edx = 4; origin = 2; page = 1; entry = 5 }
unfolding origin_read
row_of_page_1_told = refl

-- 14, and the processor that a caller describes
pub too_large_told : state_numbers (Err CompactSizeTooLarge) ≡ record { number = 14; size = 0 }
too_large_told = refl

pub processor_given : processor_of 5 7 0x800 true ≡ record { x2apic = 5; xcr0 = 7; xss = 0x800; osxsave = true }
processor_given = refl

-- a server whose 7.0.ECX is in the way; the third server's own refusal by 7 with s = 1; bit 31 of EDX
pub ecx_differs_told : compared_numbers (Differs (function 7) (Some 0) Ecx)
    ≡ record { answer = 4; number = 0; leaf = 7; has_subleaf = 1; subleaf = 0; s = 0; register_index = 2 }
ecx_differs_told = refl

pub third_server_told : (o : List ℕ)
    → pooled_numbers (record { verdict = Err (TopologyInconsistent (ProcessorCount 1)); server = 2; table = empty_table; origins = o })
    ≡ record { number = 7; leaf = 0; has_subleaf = 0; subleaf = 0; s = 1; server = 2; row_count = 0; max_extended_state = 0 }
third_server_told o = refl

pub bit_31_told : nearest_numbers (Ok (record { page = 1; entry = 2; register = 3; bit = 31 }))
    ≡ record { number = 0; leaf = 0; has_subleaf = 0; subleaf = 0; s = 0; entry = 2; page = 1; register_index = 3; bit = 31 }
bit_31_told = refl
