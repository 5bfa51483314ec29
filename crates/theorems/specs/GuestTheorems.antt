-- What one processor's guest sees.
-- `answer chosen s` is the answer of the definition (crates/build/specs/Build.antt) to the page bytes s under what the caller chooses.
use Rattle.std.specs.Prelude.{◌≡◌, true, false, List, [], ◌∷◌, ℕ, ◌<◌, ◌^◌, Err, Ok}
use Rattle.x86defs.specs.Functions.{cpuid_result}
use Rattle.table.specs.declared.Choices.{Choices}
use Rattle.table.specs.declared.Refusal.TheVariants.{SaveAreaOverflow, StateBeyondTable, CompactSizeTooLarge}
use Rattle.table.specs.declared.CpuidResults.{CpuidResults}
use Rattle.table.specs.Rows.{Rows}
use Rattle.table.specs.Table.{row_in, rows_of_table}
use Rattle.checks.specs.ExtendedState.{save_area}
use Rattle.masking.specs.Kept.{places}
use Rattle.masking.specs.Place
use Rattle.build.specs.Build.{answer}
use Rattle.image.specs.Image.{image}
use Rattle.rise.specs.Rise.{RiseHypothesis, TableRises}
use Rattle.buffer.specs.WritesExactly.{FrontExactly}
use Rattle.guest_state.specs.State.{state_verdict}
use Rattle.guest.specs.declared.Processor.{Processor}
use Rattle.guest.specs.Guest.{guest_table, refused_answer}
use Rattle.guest.specs.GuestPages.{guest_pages, write_guest}
use Rattle.guest_rise.specs.StateExactly.{StateAnswers}
use Rattle.guest_rise.proofs.StateExactlyProof.{state_answers}
use Rattle.guest_rise.specs.GuestExactly.{GuestExactly}
use Rattle.guest_rise.proofs.GuestExactly.{guest_exactly, guest_writes_exactly}
use Rattle.guest_rise.specs.GuestRise.{GuestRise, GuestOutcome, GuestTableRises, compacts_in}
use Rattle.guest_rise.specs.GuestPreorder.{guest_rises_compose}
use Rattle.guest_rise.proofs.GuestRiseProof as GuestRiseProof
use Rattle.guest.proofs.SeenLaws as Seen
use Rattle.guest.specs.SeenExactly.{SeenExactly}
use Rattle.guest.proofs.SeenExactlyProof.{seen_exactly}
use Rattle.guest_rise.specs.GuestRisen.{GuestRiseAll}
use Rattle.guest_rise.proofs.GuestRisenProof.{guest_rises_all}
use Rattle.examples.specs.CompactSizes.{sizes, sizes_are}
use Rattle.examples.specs.SeenExamples.{processor, figures}
use Rattle.examples.specs.Views as Views
use Rattle.examples.specs.Exception as Exception
use Rattle.examples.specs.Composed as Composed
use Rattle.theorems.specs.GuestExported.{GuestExportsRise}
use Rattle.theorems.specs.GuestExportedProof.{guest_exports_rise}
use Rattle.page_sets.specs.Evaluation.{first_edition}
use Rattle.page_sets.specs.PageSets.{server_a, server_b, server_w, server_with_large_d6}
use Rattle.theorems.specs.BuildingTheorems.{a_to_b}

-- ---- P3, what one processor's guest sees. crates/guest/specs/Guest.antt has the guest's table, crates/guest_state/specs/State.antt
-- refusals 13 and 14 and the two sizes, Compact.antt beside it the compacted size; crates/guest/specs/GuestPages.antt the same from pages.

-- Building's refusals first; then 13, 14 and the view, each if and only if its condition holds.
pub each_guest_answer_exactly : (chosen : Choices) (s : List ℕ) (v : Processor) → GuestExactly chosen s v
each_guest_answer_exactly = guest_exactly

-- 13 and 14 of any rows, a table's own or others: one of three, which exclude each other. crates/guest_rise/specs/StateExactly.antt
pub each_state_exactly : (m : Rows) (x s : ℕ) → StateAnswers m x s (state_verdict m x s)
each_state_exactly = state_answers

-- the guest's image: 9 exactly where the buffer is shorter, after all of these; every lent byte
pub each_guest_write_exactly : (chosen : Choices) (s : List ℕ) (v : Processor) (buffer : List ℕ)
    → FrontExactly (guest_pages chosen s v).verdict (image (guest_pages chosen s v).table) buffer (write_guest chosen s v buffer)
each_guest_write_exactly = guest_writes_exactly

-- the rows of five places differ, and no others
pub no_other_row_differs : (t : CpuidResults) (v : Processor) (i : ℕ) → i < places
    → (i ≡ Place.version_and_features → ⊥) → (i ≡ Place.thread_level → ⊥) → (i ≡ Place.core_level → ⊥)
    → (i ≡ Place.extended_state 0 → ⊥) → (i ≡ Place.extended_state 1 → ⊥)
    → (row_in (guest_table t v) i).result ≡ (row_in t i).result
no_other_row_differs = Seen.elsewhere

-- and of these five exactly the registers and bits that P3 names, each as it says; every other register and bit is the paravisor's.
-- crates/guest/specs/SeenExactly.antt
pub no_other_register_differs : (t : CpuidResults) (v : Processor) → SeenExactly t v
no_other_register_differs = seen_exactly

-- D.0.EBX of a table that building accepted never overflows: it is the size itself
pub guest_size_never_overflows : (chosen : Choices) (s : List ℕ) (v : Processor) → (answer chosen s).verdict ≡ Ok tt
    → (guest_pages chosen s v).verdict ≡ Ok tt
    → (save_area (rows_of_table (answer chosen s).table) v.xcr0 < 2 ^ 32)
    × ((row_in (guest_pages chosen s v).table (Place.extended_state 0)).result.ebx ≡ save_area (rows_of_table (answer chosen s).table) v.xcr0)
guest_size_never_overflows chosen s v a g = (GuestRiseProof.never_overflows chosen s v a g, GuestRiseProof.area_seen chosen s v a g)

-- The rise of guest answers: B's view is given and its table rises from A's, or A's D.1.EAX has neither bit 1 nor bit 3, and then D.1.EBX is
-- free or B is refused by 14, and nothing else is loosened. crates/guest_rise/specs/GuestRise.antt
pub guest_rise : GuestRise
guest_rise = GuestRiseProof.guest_rise

-- where A's D.1.EAX has either bit: given, and the tables rise as in demand 3, D.0.EBX and D.1.EBX equal among the rest
pub guest_rise_whole : (chosen : Choices) (a b : List ℕ) (v : Processor) → RiseHypothesis chosen a b → (answer chosen b).verdict ≡ Ok tt
    → (guest_pages chosen a v).verdict ≡ Ok tt → compacts_in (answer chosen a).table ≡ true
    → ((guest_pages chosen b v).verdict ≡ Ok tt) × TableRises (guest_pages chosen a v).table (guest_pages chosen b v).table
guest_rise_whole = GuestRiseProof.guest_rise_whole

-- The whole of it, B refused or given: by 3 or 5 as in demand 3, by 14 only where A's D.1.EAX has neither bit, or given and risen; never by 13.
-- crates/guest_rise/specs/GuestRisen.antt. `guest_from_a_to_b` and `exception_outcome` below meet it; so does A's guest on the two servers that are
-- refused by 3 and by 5 (`without_d12_rises`, `large_d6_rises`).
pub guest_rise_all : GuestRiseAll
guest_rise_all = guest_rises_all

-- rises of guest tables compose as those of tables do, the exception included. crates/guest_rise/specs/GuestPreorder.antt; `guest_from_w_to_b`
-- below meets it
pub guest_tables_compose : (t u v : CpuidResults) → GuestTableRises t u → GuestTableRises u v → GuestTableRises t v
guest_tables_compose = guest_rises_compose

-- the same of what the exported guest functions return, for the same servers. crates/theorems/specs/GuestExported.antt
pub guest_rise_of_exports : (chosen : Choices) (a b : List ℕ) (v : Processor) → RiseHypothesis chosen a b → (guest_pages chosen a v).verdict ≡ Ok tt
    → GuestExportsRise chosen a b v
guest_rise_of_exports = guest_exports_rise

-- Examples. crates/examples/specs/Views.antt: server A's guest with all of its state, and the six registers that it reads
-- anew (1.EBX, 1.ECX, B.0.EDX, B.1.EDX, D.0.EBX, D.1.EBX)
pub guest_of_a : figures (guest_pages first_edition server_a Views.view_a).table ≡ 0x45010000 ∷ 0xBED83203 ∷ 0x12345 ∷ 0x12345 ∷ 832 ∷ 832 ∷ []
guest_of_a = Views.a_figures

-- its row 1 whole: EAX and EDX are the table's
pub guest_of_a_row_1 : (row_in (guest_pages first_edition server_a Views.view_a).table Place.version_and_features).result
    ≡ cpuid_result 0xA00F11 0x45010000 0xBED83203 0x178BFBFF
guest_of_a_row_1 = Views.a_version

-- 13, by a bit above 31
pub guest_of_a_beyond : (guest_pages first_edition server_a (processor 0 0x100000007 0 true)).verdict ≡ Err StateBeyondTable
guest_of_a_beyond = Views.a_beyond

-- bit 1 of XCR0 is not asked
pub guest_of_a_without_sse : (guest_pages first_edition server_a (processor 0 0x1 0 false)).verdict ≡ Ok tt
guest_of_a_without_sse = Views.a_without_sse

-- building first: 5, of a processor that 13 would refuse
pub guest_unbuilt : guest_pages first_edition server_with_large_d6 (processor 0 0 0 true) ≡ refused_answer SaveAreaOverflow
guest_unbuilt = Views.unbuilt

-- A's guest on B; all of B's own state
pub guest_from_a_to_b : GuestOutcome (guest_pages first_edition server_a Views.view_a).table (guest_pages first_edition server_b Views.view_a)
guest_from_a_to_b = Views.a_to_b

pub guest_of_b : figures (guest_pages first_edition server_b (processor 1 0xE7 0x1800 true)).table ≡ 0x01010000 ∷ 0xFEDA3203 ∷ 1 ∷ 1 ∷ 2432 ∷ 2472 ∷ []
guest_of_b = Views.b_figures

-- a guest of servers W, A and B, by composing. crates/examples/specs/Composed.antt
pub guest_from_w_to_b : GuestTableRises (guest_pages first_edition server_w Composed.view_w).table (guest_pages first_edition server_b Composed.view_w).table
guest_from_w_to_b = guest_tables_compose _ _ _ Composed.w_to_a_risen Composed.a_to_b_risen

-- the exception: a server with neither bit, where D.1.EBX is 0 and D.0.EBX the largest size, and one with bit 1, which refuses by 14.
-- crates/examples/specs/Exception.antt
pub exception_rises : RiseHypothesis first_edition Exception.plain Exception.compacting
exception_rises = Exception.plain_to_compacting

pub exception_given : figures (guest_pages first_edition Exception.plain Views.view_a).table ≡ 0x45010000 ∷ 0xBED83203 ∷ 0x12345 ∷ 0x12345 ∷ 0xFFFFFFFF ∷ 0 ∷ []
exception_given = Exception.plain_figures

pub exception_refused : (guest_pages first_edition Exception.compacting Views.view_a).verdict ≡ Err CompactSizeTooLarge
exception_refused = Exception.compacting_refused

pub exception_outcome : GuestOutcome (guest_pages first_edition Exception.plain Views.view_a).table (guest_pages first_edition Exception.compacting Views.view_a)
exception_outcome = Exception.plain_outcome

-- compacted sizes: order, alignment of the start, the largest that is given and the first that is not. crates/examples/specs/CompactSizes.antt
pub compacted_sizes : sizes ≡ 576 ∷ 832 ∷ 840 ∷ 856 ∷ 920 ∷ 856 ∷ 0xFFFFFFFF ∷ 0x100000000 ∷ []
compacted_sizes = sizes_are
