-- Examples: two servers that one processor's guest cannot tell apart, though their tables differ; the save areas of server B's guest with all of its
-- state; a guest's life on servers W, A and B and then in edition 2; and one in which carrying loses its three bits.
use Rattle.std.specs.Prelude.{◌≡◌, true, List, [], ◌∷◌, ℕ, ◌≤◌, length, Ok}
use Rattle.std.proofs.Common.{sym, ap, ◌∙◌}
use Rattle.bits.specs.Lists.{tabulate}
use Rattle.bits.specs.ListsLaws.{tabulate_at}
use Rattle.masking.specs.Kept.{places}
use Rattle.masking.specs.Place
use Rattle.table.specs.declared.CpuidResults.{CpuidResults}
use Rattle.table.specs.Rows.{Row}
use Rattle.table.specs.Table.{row_in, rows_of_table}
use Rattle.build.specs.Build.{answer}
use Rattle.page_sets.specs.PageSets.{entry, with_first, server_a, server_b, server_w}
use Rattle.page_sets.specs.PassLaws.{verdict_passed, table_passed}
use Rattle.page_sets.specs.Evaluation.{first_edition, passed}
use Rattle.rise.specs.Rise.{RiseHypothesis}
use Rattle.rise.specs.RiseProof.{answer_table}
use Rattle.rise.proofs.RiseProof.{demand_3}
use Rattle.compare.specs.declared.search.RowsCompared.TheVariants.{Rises}
use Rattle.compare.specs.RowsCompared.{compared_tables}
use Rattle.compare.proofs.TablesDecideProof.{decides}
use Rattle.carry.specs.Carry.{carry}
use Rattle.guest_state.specs.State.{state_verdict}
use Rattle.guest.specs.declared.Processor.{Processor}
use Rattle.guest.specs.Guest.{guest_table, guest_answer}
use Rattle.guest.specs.GuestPages.{guest_pages}
use Rattle.guest.proofs.GuestPagesLaws.{given_guest}
use Rattle.guest_rise.specs.GuestRise.{compacts_in}
use Rattle.images.specs.CarriedLaws as CarriedLaws
use Rattle.images.specs.CarriedRows.{own_ymm}
use Rattle.images.proofs.MovesProof.{moves_to_second}
use Rattle.guest_life.specs.Sound.{built_sound}
use Rattle.guest_life.specs.ViewsTell.{TablesAgree, SameView}
use Rattle.guest_life.proofs.ViewsTellProof.{views_tell_tables}
use Rattle.guest_life.specs.SaveAreas.{StandardForm, CompactedForm}
use Rattle.guest_life.proofs.SaveAreasProof.{save_areas}
use Rattle.guest_life.specs.Life.{Life, LifeOutcome, lost_bit}
use Rattle.guest_life.specs.Life.Life.{starts, moves, carries}
use Rattle.guest_life.proofs.LifeProof.{life_shows}
use Rattle.examples.specs.Computed.{server_a_accepted, server_b_rises, server_b_accepted}
use Rattle.examples.specs.Chain.{w_accepted, w_to_a}
use Rattle.examples.specs.WithoutYmm.{without_ymm, first_accepted}
use Rattle.examples.specs.WithoutYmmMoved.{running, moved}
use Rattle.examples.specs.SeenExamples.{viewed, processor, built, built_passed, state_passed, seen_verdict}
use Rattle.examples.specs.Views.{view_a, a_given}

-- ---- server A read on another of its processors: 1.EBX has another number, and 1.ECX lacks OSXSAVE

unfoldable pub server_a_elsewhere : List ℕ
server_a_elsewhere = with_first (entry 1 0 0xA00F11 0x7F010000 0x36D83203 0x178BFBFF)

elsewhere_accepted : (answer first_edition server_a_elsewhere).verdict ≡ Ok tt
unfolding passed server_a_elsewhere
elsewhere_accepted = verdict_passed first_edition server_a_elsewhere

state_elsewhere : state_verdict (rows_of_table (built first_edition server_a_elsewhere)) 0x7 0 ≡ Ok tt
unfolding viewed server_a_elsewhere
state_elsewhere = state_passed first_edition server_a_elsewhere 0x7 0

pub elsewhere_given : (guest_pages first_edition server_a_elsewhere view_a).verdict ≡ Ok tt
elsewhere_given = seen_verdict first_edition server_a_elsewhere view_a elsewhere_accepted state_elsewhere

-- 1.EBX and 1.ECX of the two tables
abbrev pub numbers : CpuidResults → List ℕ
numbers t = (row_in t Place.version_and_features).result.ebx ∷ (row_in t Place.version_and_features).result.ecx ∷ []

pub elsewhere_numbers : numbers (answer first_edition server_a_elsewhere).table ≡ 0x7F010000 ∷ 0xB6D83203 ∷ []
unfolding passed server_a_elsewhere
elsewhere_numbers = ap numbers (table_passed first_edition server_a_elsewhere elsewhere_accepted)

pub a_numbers : numbers (answer first_edition server_a).table ≡ 0x10000 ∷ 0xBED83203 ∷ []
unfolding passed server_a
a_numbers = ap numbers (table_passed first_edition server_a server_a_accepted)

abbrev rows_seen : CpuidResults → List Row
rows_seen t = tabulate places (λ i. row_in (guest_table t view_a) i)

alike : rows_seen (built first_edition server_a) ≡ rows_seen (built first_edition server_a_elsewhere)
unfolding viewed server_a server_a_elsewhere tabulate
alike = ap rows_seen (built_passed first_edition server_a) ∙ sym (ap rows_seen (built_passed first_edition server_a_elsewhere))

pub views_alike : SameView (guest_pages first_edition server_a view_a).table (guest_pages first_edition server_a_elsewhere view_a).table
views_alike i l =
    ap (λ (t : CpuidResults). row_in t i)
    (given_guest first_edition server_a view_a server_a_accepted a_given ∙ ap (λ (t : CpuidResults). guest_table t view_a) (answer_table first_edition server_a server_a_accepted))
    ∙ tabulate_at places _ _ alike i l
    ∙ sym (ap (λ (t : CpuidResults). row_in t i)
    (given_guest first_edition server_a_elsewhere view_a elsewhere_accepted elsewhere_given
    ∙ ap (λ (t : CpuidResults). guest_table t view_a) (answer_table first_edition server_a_elsewhere elsewhere_accepted)))

pub alike_agree : TablesAgree (answer first_edition server_a).table (answer first_edition server_a_elsewhere).table
alike_agree = (views_tell_tables first_edition first_edition server_a server_a_elsewhere view_a a_given elsewhere_given).0 views_alike

-- ---- server B with all of its state

abbrev pub view_b : Processor
view_b = processor 1 0xE7 0x1800 true

state_b_lem : state_verdict (rows_of_table (built first_edition server_b)) 0xE7 0x1800 ≡ Ok tt
unfolding viewed server_b
state_b_lem = state_passed first_edition server_b 0xE7 0x1800

pub b_given : (guest_pages first_edition server_b view_b).verdict ≡ Ok tt
b_given = seen_verdict first_edition server_b view_b server_b_accepted state_b_lem

compacts_b : compacts_in (guest_table (built first_edition server_b) view_b) ≡ true
unfolding viewed server_b
compacts_b = ap (λ (t : CpuidResults). compacts_in (guest_table t view_b)) (built_passed first_edition server_b)

pub b_standard : StandardForm (guest_pages first_edition server_b view_b).table 0xE7
b_standard = (save_areas first_edition server_b view_b b_given).0

pub b_compacted : CompactedForm (guest_pages first_edition server_b view_b).table 0x18E7
b_compacted =
    (save_areas first_edition server_b view_b b_given).1
    (ap compacts_in
    (given_guest first_edition server_b view_b server_b_accepted b_given ∙ ap (λ (t : CpuidResults). guest_table t view_b) (answer_table first_edition server_b server_b_accepted))
    ∙ compacts_b)

-- ---- a life: W, A, B, then edition 2

abbrev pub view_w : Processor
view_w = processor 1 0x3 0 true

state_w : state_verdict (rows_of_table (built first_edition server_w)) 0x3 0 ≡ Ok tt
unfolding viewed server_w
state_w = state_passed first_edition server_w 0x3 0

state_on_b : state_verdict (rows_of_table (built first_edition server_b)) 0x3 0 ≡ Ok tt
unfolding viewed server_b
state_on_b = state_passed first_edition server_b 0x3 0

may_move : (a b : List ℕ) → RiseHypothesis first_edition a b → (answer first_edition b).verdict ≡ Ok tt
    → compared_tables (answer first_edition a).table (answer first_edition b).table ≡ Rises
may_move a b r e = (decides _ _).complete ((demand_3 first_edition a b r).table e)

carried_on_b : (carry (answer first_edition server_b).table 1 2 0x3 0).verdict ≡ Ok tt
carried_on_b =
    (moves_to_second first_edition server_b 0x3 0 server_b_accepted).verdict
    ∙ ap (λ (t : CpuidResults). state_verdict (rows_of_table t) 0x3 0) (answer_table first_edition server_b server_b_accepted)
    ∙ state_on_b

pub long_life : Life (answer first_edition server_w).table (carry (answer first_edition server_b).table 1 2 0x3 0).table
long_life = moves (may_move server_w server_a w_to_a server_a_accepted) (moves (may_move server_a server_b server_b_rises server_b_accepted) (carries 1 2 0x3 0 carried_on_b starts))

carried_whole : (s : List ℕ) → (answer first_edition s).verdict ≡ Ok tt → (x : ℕ) → (carry (answer first_edition s).table 1 2 x 0).verdict ≡ Ok tt
    → length (carry (answer first_edition s).table 1 2 x 0).table.present ≤ places
carried_whole s a x e = rw (CarriedLaws.given (answer first_edition s).table 1 2 x 0 e) (built_sound first_edition s a).whole

pub long_life_shows : LifeOutcome (lost_bit (own_ymm (answer first_edition server_w).table)) (guest_pages first_edition server_w view_w).table
    (guest_answer (carry (answer first_edition server_b).table 1 2 0x3 0).table view_w)
long_life_shows =
    life_shows first_edition server_w _ long_life (carried_whole server_b server_b_accepted 0x3 carried_on_b) view_w
    (seen_verdict first_edition server_w view_w w_accepted state_w)

-- ---- a life in which bits are lost: the server without YMM state, whose entries have F16C, XOP and FMA4 (WithoutYmmMoved.antt has the figures)

state_running : state_verdict (rows_of_table (built first_edition without_ymm)) 0x3 0 ≡ Ok tt
unfolding viewed without_ymm
state_running = state_passed first_edition without_ymm 0x3 0

pub losing_life_shows : LifeOutcome (lost_bit (own_ymm running)) (guest_pages first_edition without_ymm view_w).table (guest_answer (carry running 1 2 3 0).table view_w)
losing_life_shows =
    life_shows first_edition without_ymm _ (carries 1 2 3 0 moved starts) (carried_whole without_ymm first_accepted 3 moved) view_w
    (seen_verdict first_edition without_ymm view_w first_accepted state_running)
