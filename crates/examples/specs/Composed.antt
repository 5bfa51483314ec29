-- Examples: the guest of a processor with x87 and SSE state on servers W, A and B, and the rise from W's table to B's that composing gives.
use Rattle.std.specs.Prelude.{◌≡◌, true, List, ℕ, Ok}
use Rattle.std.proofs.Common.{ap, ◌∙◌}
use Rattle.bits.specs.ChoiceLaws.{never_both}
use Rattle.table.specs.declared.CpuidResults.{CpuidResults}
use Rattle.table.specs.Table.{rows_of_table}
use Rattle.build.specs.Build.{answer}
use Rattle.page_sets.specs.PageSets.{server_a, server_b, server_w}
use Rattle.page_sets.specs.Evaluation.{first_edition}
use Rattle.guest_state.specs.State.{state_verdict}
use Rattle.guest.specs.declared.Processor.{Processor}
use Rattle.guest.specs.declared.GuestAnswer.{GuestAnswer}
use Rattle.guest.specs.Guest.{guest_table}
use Rattle.guest.specs.GuestPages.{guest_pages}
use Rattle.guest.proofs.GuestPagesLaws.{given_guest}
use Rattle.rise.specs.RiseProof.{answer_table}
use Rattle.guest_rise.specs.GuestRise.{compacts_in, GuestTableRises, GuestOutcome}
use Rattle.guest_rise.specs.GuestRise.GuestOutcome.{given, too_large}
use Rattle.guest_rise.proofs.GuestRiseProof.{guest_rise}
use Rattle.guest_rise.specs.GuestPreorder.{guest_rises_compose}
use Rattle.examples.specs.Computed.{server_a_accepted, server_b_rises, server_b_accepted}
use Rattle.examples.specs.Chain.{w_accepted, w_to_a}
use Rattle.examples.specs.SeenExamples.{viewed, processor, built, built_passed, state_passed, seen_verdict}

abbrev pub view_w : Processor
view_w = processor 1 0x3 0 true

-- where D.1.EAX has bit 1 or bit 3, the guest is given its table
risen : {a : CpuidResults} {g : GuestAnswer} → compacts_in a ≡ true → GuestOutcome a g → GuestTableRises a g.table
risen c (given e t) = t
risen c (too_large d e) = absurd (never_both c d)

module _ (s : List ℕ) (accepted : (answer first_edition s).verdict ≡ Ok tt) (state : state_verdict (rows_of_table (built first_edition s)) 0x3 0 ≡ Ok tt)
    (compacts : compacts_in (guest_table (built first_edition s) view_w) ≡ true) where
  is_given : (guest_pages first_edition s view_w).verdict ≡ Ok tt
  is_given = seen_verdict first_edition s view_w accepted state

  compacts_seen : compacts_in (guest_pages first_edition s view_w).table ≡ true
  compacts_seen =
      ap compacts_in (given_guest first_edition s view_w accepted is_given ∙ ap (λ (t : CpuidResults). guest_table t view_w) (answer_table first_edition s accepted))
      ∙ compacts

state_w : state_verdict (rows_of_table (built first_edition server_w)) 0x3 0 ≡ Ok tt
unfolding viewed server_w
state_w = state_passed first_edition server_w 0x3 0

compacts_w : compacts_in (guest_table (built first_edition server_w) view_w) ≡ true
unfolding viewed server_w
compacts_w = ap (λ (t : CpuidResults). compacts_in (guest_table t view_w)) (built_passed first_edition server_w)

state_a_lem : state_verdict (rows_of_table (built first_edition server_a)) 0x3 0 ≡ Ok tt
unfolding viewed server_a
state_a_lem = state_passed first_edition server_a 0x3 0

compacts_a : compacts_in (guest_table (built first_edition server_a) view_w) ≡ true
unfolding viewed server_a
compacts_a = ap (λ (t : CpuidResults). compacts_in (guest_table t view_w)) (built_passed first_edition server_a)

pub w_to_a_risen : GuestTableRises (guest_pages first_edition server_w view_w).table (guest_pages first_edition server_a view_w).table
w_to_a_risen =
    risen (compacts_seen server_w w_accepted state_w compacts_w)
    (guest_rise first_edition server_w server_a view_w w_to_a server_a_accepted (is_given server_w w_accepted state_w compacts_w))

pub a_to_b_risen : GuestTableRises (guest_pages first_edition server_a view_w).table (guest_pages first_edition server_b view_w).table
a_to_b_risen =
    risen (compacts_seen server_a server_a_accepted state_a_lem compacts_a)
    (guest_rise first_edition server_a server_b view_w server_b_rises server_b_accepted (is_given server_a server_a_accepted state_a_lem compacts_a))

pub w_to_b_risen : GuestTableRises (guest_pages first_edition server_w view_w).table (guest_pages first_edition server_b view_w).table
w_to_b_risen = guest_rises_compose _ _ _ w_to_a_risen a_to_b_risen
