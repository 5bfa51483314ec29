-- Examples: a view for each answer, and a pair of servers whose guests' tables rise, all by computation.
use Rattle.std.specs.Prelude.{◌≡◌, true, false, [], ◌∷◌, Err, Ok}
use Rattle.std.proofs.Common.{ap, ◌∙◌}
use Rattle.x86defs.specs.declared.CpuidResult.{CpuidResult}
use Rattle.x86defs.specs.Functions.{cpuid_result}
use Rattle.masking.specs.Place
use Rattle.table.specs.declared.CpuidResults.{CpuidResults}
use Rattle.table.specs.declared.Refusal.TheVariants.{SaveAreaOverflow, StateBeyondTable}
use Rattle.table.specs.Table.{row_in, rows_of_table}
use Rattle.rise.specs.RiseProof.{answer_table}
use Rattle.page_sets.specs.PageSets.{server_a, server_b, server_with_large_d6}
use Rattle.examples.specs.Computed.{server_a_accepted, server_b_rises, server_b_accepted, large_refused}
use Rattle.guest_state.specs.State.{state_verdict}
use Rattle.guest.specs.declared.Processor.{Processor}
use Rattle.guest.specs.Guest.{guest_table, refused_answer}
use Rattle.guest.specs.GuestPages.{guest_pages}
use Rattle.guest.proofs.GuestPagesLaws.{given_guest, building_first}
use Rattle.guest_rise.specs.GuestRise.{GuestOutcome}
use Rattle.guest_rise.proofs.GuestRiseProof.{guest_rise}
use Rattle.page_sets.specs.Evaluation.{first_edition}
use Rattle.examples.specs.SeenExamples.{viewed, processor, built, figures, built_passed, state_passed, figures_passed, seen_verdict, seen_figures}

-- ---- server A, all of its state, OSXSAVE on: bit 27 of 1.ECX is set

abbrev pub view_a : Processor
view_a = processor 0x12345 0x7 0 true

state_a : state_verdict (rows_of_table (built first_edition server_a)) 0x7 0 ≡ Ok tt
unfolding viewed server_a
state_a = state_passed first_edition server_a 0x7 0

figures_a : figures (guest_table (built first_edition server_a) view_a) ≡ 0x45010000 ∷ 0xBED83203 ∷ 0x12345 ∷ 0x12345 ∷ 832 ∷ 832 ∷ []
unfolding viewed server_a
figures_a = figures_passed first_edition server_a view_a

pub a_given : (guest_pages first_edition server_a view_a).verdict ≡ Ok tt
a_given = seen_verdict first_edition server_a view_a server_a_accepted state_a

pub a_figures : figures (guest_pages first_edition server_a view_a).table ≡ 0x45010000 ∷ 0xBED83203 ∷ 0x12345 ∷ 0x12345 ∷ 832 ∷ 832 ∷ []
a_figures = seen_figures first_edition server_a view_a server_a_accepted state_a figures_a

-- row 1 whole: EAX and EDX are the table's, and of EBX and ECX all but the number and bit 27
abbrev version_row : CpuidResults → CpuidResult
version_row t = (row_in t Place.version_and_features).result

version_passed : version_row (guest_table (built first_edition server_a) view_a) ≡ cpuid_result 0xA00F11 0x45010000 0xBED83203 0x178BFBFF
unfolding viewed server_a
version_passed = ap (λ (t : CpuidResults). version_row (guest_table t view_a)) (built_passed first_edition server_a)

pub a_version : (row_in (guest_pages first_edition server_a view_a).table Place.version_and_features).result ≡ cpuid_result 0xA00F11 0x45010000 0xBED83203 0x178BFBFF
a_version =
    ap version_row
    (given_guest first_edition server_a view_a server_a_accepted a_given
    ∙ ap (λ (t : CpuidResults). guest_table t view_a) (answer_table first_edition server_a server_a_accepted))
    ∙ version_passed

-- ---- 13: without bit 0; beyond XFEM; beyond XFEM's 32 bits; XSS beyond the table's, which is 0

beyond : state_verdict (rows_of_table (built first_edition server_a)) 0x6 0
    ∷ state_verdict (rows_of_table (built first_edition server_a)) 0xE7 0
    ∷ state_verdict (rows_of_table (built first_edition server_a)) 0x7 0x800
    ∷ []
    ≡ Err StateBeyondTable ∷ Err StateBeyondTable ∷ Err StateBeyondTable ∷ []
unfolding viewed server_a
beyond =
    ap (λ (t : CpuidResults). state_verdict (rows_of_table t) 0x6 0 ∷ state_verdict (rows_of_table t) 0xE7 0 ∷ state_verdict (rows_of_table t) 0x7 0x800 ∷ [])
    (built_passed first_edition server_a)

beyond_high : state_verdict (rows_of_table (built first_edition server_a)) 0x100000007 0 ≡ Err StateBeyondTable
unfolding viewed server_a
beyond_high = state_passed first_edition server_a 0x100000007 0

pub a_beyond : (guest_pages first_edition server_a (processor 0 0x100000007 0 true)).verdict ≡ Err StateBeyondTable
a_beyond = seen_verdict first_edition server_a (processor 0 0x100000007 0 true) server_a_accepted beyond_high

-- bit 1 is not asked: XCR0 1 is given
without_sse : state_verdict (rows_of_table (built first_edition server_a)) 0x1 0 ≡ Ok tt
unfolding viewed server_a
without_sse = state_passed first_edition server_a 0x1 0

pub a_without_sse : (guest_pages first_edition server_a (processor 0 0x1 0 false)).verdict ≡ Ok tt
a_without_sse = seen_verdict first_edition server_a (processor 0 0x1 0 false) server_a_accepted without_sse

-- ---- building's refusals come first

pub unbuilt : guest_pages first_edition server_with_large_d6 (processor 0 0 0 true) ≡ refused_answer SaveAreaOverflow
unbuilt = building_first first_edition server_with_large_d6 (processor 0 0 0 true) SaveAreaOverflow large_refused

-- ---- A's guest on B: both sizes stay. B's own state is larger.

pub a_to_b : GuestOutcome (guest_pages first_edition server_a view_a).table (guest_pages first_edition server_b view_a)
a_to_b = guest_rise first_edition server_a server_b view_a server_b_rises server_b_accepted a_given

state_b : state_verdict (rows_of_table (built first_edition server_b)) 0xE7 0x1800 ≡ Ok tt
unfolding viewed server_b
state_b = state_passed first_edition server_b 0xE7 0x1800

figures_b : figures (guest_table (built first_edition server_b) (processor 1 0xE7 0x1800 true)) ≡ 0x01010000 ∷ 0xFEDA3203 ∷ 1 ∷ 1 ∷ 2432 ∷ 2472 ∷ []
unfolding viewed server_b
figures_b = figures_passed first_edition server_b (processor 1 0xE7 0x1800 true)

pub b_figures : figures (guest_pages first_edition server_b (processor 1 0xE7 0x1800 true)).table ≡ 0x01010000 ∷ 0xFEDA3203 ∷ 1 ∷ 1 ∷ 2432 ∷ 2472 ∷ []
b_figures = seen_figures first_edition server_b (processor 1 0xE7 0x1800 true) server_b_accepted state_b figures_b
