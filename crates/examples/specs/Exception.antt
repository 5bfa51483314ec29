-- Examples: the exception of the guest's rise. Server A's D.1.EAX has neither bit 1 nor bit 3, and its guests read 0 in D.1.EBX; B has
-- bit 1, and refuses the same view by 14, or gives a size.
use Rattle.std.specs.Prelude.{◌≡◌, refl, false, List, [], ◌∷◌, ◌++◌, ℕ, Err, Ok}
use Rattle.table.specs.declared.Refusal.TheVariants.{CompactSizeTooLarge}
use Rattle.table.specs.Table.{rows_of_table}
use Rattle.build.specs.Build.{answer}
use Rattle.rise.specs.Rise.{RiseHypothesis}
use Rattle.page_sets.specs.PageSets.{entry, page, first_page}
use Rattle.page_sets.specs.PassLaws.{lawful_passed, verdict_passed}
use Rattle.examples.specs.RisePassed.{passed_compared, rises_passed}
use Rattle.guest_state.specs.State.{state_verdict}
use Rattle.guest.specs.Guest.{guest_table}
use Rattle.guest.specs.GuestPages.{guest_pages}
use Rattle.guest_rise.specs.GuestRise.{GuestOutcome}
use Rattle.guest_rise.proofs.GuestRiseProof.{guest_rise}
use Rattle.page_sets.specs.Evaluation.{first_edition}
use Rattle.examples.specs.SeenExamples.{viewed, processor, built, figures, state_passed, figures_passed, seen_verdict, seen_figures}
use Rattle.examples.specs.Views.{view_a}

-- a server with the given D.1.EAX, and D.2 of 2^32 - 1 bytes at offset 0
abbrev server : ℕ → List ℕ
server xsaves =
    first_page 0x3ED83203 0x219C07A9 0x3F
    ++ page 3 (entry 0xD 0 7 0x340 0x340 0 ++ entry 0xD 1 xsaves 0x340 0 0 ++ entry 0xD 2 0xFFFFFFFF 0 0 0)

unfoldable pub plain : List ℕ
plain = server 0x1

unfoldable pub compacting : List ℕ
compacting = server 0x3

pub plain_accepted : (answer first_edition plain).verdict ≡ Ok tt
unfolding viewed plain
plain_accepted = verdict_passed first_edition plain

pub compacting_accepted : (answer first_edition compacting).verdict ≡ Ok tt
unfolding viewed compacting
compacting_accepted = verdict_passed first_edition compacting

pub plain_to_compacting : RiseHypothesis first_edition plain compacting
unfolding viewed passed_compared plain compacting
plain_to_compacting = rises_passed first_edition plain compacting plain_accepted (lawful_passed compacting) refl

-- D.0.EBX is FFFFFFFFh, the largest; D.1.EBX is 0 on A, and on B 576 more than 32 bits hold
plain_state : state_verdict (rows_of_table (built first_edition plain)) 0x7 0 ≡ Ok tt
unfolding viewed plain
plain_state = state_passed first_edition plain 0x7 0

plain_shown : figures (guest_table (built first_edition plain) view_a) ≡ 0x45010000 ∷ 0xBED83203 ∷ 0x12345 ∷ 0x12345 ∷ 0xFFFFFFFF ∷ 0 ∷ []
unfolding viewed plain
plain_shown = figures_passed first_edition plain view_a

compacting_state : state_verdict (rows_of_table (built first_edition compacting)) 0x7 0 ≡ Err CompactSizeTooLarge
unfolding viewed compacting
compacting_state = state_passed first_edition compacting 0x7 0

pub plain_given : (guest_pages first_edition plain view_a).verdict ≡ Ok tt
plain_given = seen_verdict first_edition plain view_a plain_accepted plain_state

pub plain_figures : figures (guest_pages first_edition plain view_a).table ≡ 0x45010000 ∷ 0xBED83203 ∷ 0x12345 ∷ 0x12345 ∷ 0xFFFFFFFF ∷ 0 ∷ []
plain_figures = seen_figures first_edition plain view_a plain_accepted plain_state plain_shown

pub compacting_refused : (guest_pages first_edition compacting view_a).verdict ≡ Err CompactSizeTooLarge
compacting_refused = seen_verdict first_edition compacting view_a compacting_accepted compacting_state

pub plain_outcome : GuestOutcome (guest_pages first_edition plain view_a).table (guest_pages first_edition compacting view_a)
plain_outcome = guest_rise first_edition plain compacting view_a plain_to_compacting compacting_accepted plain_given

-- without D.2, B's D.1.EBX is a size where A's is 0
compacting_less_state : state_verdict (rows_of_table (built first_edition compacting)) 0x3 0 ≡ Ok tt
unfolding viewed compacting
compacting_less_state = state_passed first_edition compacting 0x3 0

compacting_less_shown : figures (guest_table (built first_edition compacting) (processor 0 0x3 0 false)) ≡ 0x00010000 ∷ 0xB6D83203 ∷ 0 ∷ 0 ∷ 576 ∷ 576 ∷ []
unfolding viewed compacting
compacting_less_shown = figures_passed first_edition compacting (processor 0 0x3 0 false)

pub compacting_less : figures (guest_pages first_edition compacting (processor 0 0x3 0 false)).table ≡ 0x00010000 ∷ 0xB6D83203 ∷ 0 ∷ 0 ∷ 576 ∷ 576 ∷ []
compacting_less = seen_figures first_edition compacting (processor 0 0x3 0 false) compacting_accepted compacting_less_state compacting_less_shown
