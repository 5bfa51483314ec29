-- Where rows came from, of a page set written byte by byte: page 0 begins with a D.0 that does not count there and ends with a second leaf 1; page 1
-- has the subleaves of leaf Dh.
use Rattle.std.specs.Prelude.{◌≡◌, refl, true, false, List, ◌++◌, ℕ, ◌<◌, Ok}
use Rattle.std.proofs.Common.{ap, ◌∙◌, lit<}
use Rattle.bits.specs.Lists.{keep_if}
use Rattle.bits.specs.ChoiceLaws.{pick_true, pick_false}
use Rattle.pages.specs.Entries.{counted}
use Rattle.masking.specs.Kept.{places}
use Rattle.masking.specs.Place
use Rattle.table.specs.Rows.{Row}
use Rattle.memory.specs.Origin.{Origin, is_made_here, origin_of}
use Rattle.memory.specs.Origin.Origin.{made_here, entry}
use Rattle.collect.specs.FirstEntryOrigin.{stands_at}
use Rattle.finish.specs.Finish.{rule_at}
use Rattle.finish.specs.PlaceLaws.{always}
use Rattle.build.specs.Build.{answer, origin_at}
use Rattle.rise.specs.RiseProof.{answer_row}
use Rattle.rise.specs.BuiltLaws.{always_finished}
use Rattle.rise.proofs.LocatedProof.{rows_have_origins}
use Rattle.page_sets.specs.PageSets.{entry as entry_bytes, page, required_entries, state_entries}
use Rattle.page_sets.specs.PassLaws.{counted_passed, verdict_passed}
use Rattle.page_sets.specs.Evaluation.{first_edition, passed}

-- the two bits that D.0 would bring on page 0, and the registers of the second leaf 1, are nobody's
unfoldable pub repeated : List ℕ
repeated =
    page 24 (entry_bytes 0xD 0 0xFF 0 0 0 ++ required_entries 0x3ED83203 0x219C07A9 0x3F ++ entry_bytes 1 0 0xFFFFFFFF 0xFFFFFFFF 0 0)
    ++ page 3 (state_entries 0x7 0x7 0)

pub repeated_accepted : (answer first_edition repeated).verdict ≡ Ok tt
unfolding passed repeated
repeated_accepted = verdict_passed first_edition repeated

-- a required row that is not made here has the origin of where the first entry of its place stands
required_origin : (i : ℕ) → i < places → always (rule_at i) ≡ true → is_made_here i ≡ false → {o : Origin} → stands_at i (counted repeated) ≡ o
    → origin_at first_edition repeated i ≡ o
unfolding origin_of
required_origin i l a h e =
    pick_true _ _ (ap (λ (r : Row). r.present) (answer_row first_edition repeated repeated_accepted i l) ∙ always_finished first_edition repeated repeated_accepted i l a)
    ∙ pick_false _ _ h
    ∙ e

stands_1 : stands_at Place.version_and_features (counted repeated) ≡ entry 0 1
unfolding passed stands_at keep_if repeated
stands_1 = ap (stands_at Place.version_and_features) (counted_passed repeated)

-- leaf 1 is of the first of two entries: not of the last, at position 23
pub first_leaf_1 : origin_at first_edition repeated Place.version_and_features ≡ entry 0 1
unfolding is_made_here
first_leaf_1 = required_origin Place.version_and_features (lit< tt) refl refl stands_1

stands_d0 : stands_at (Place.extended_state 0) (counted repeated) ≡ entry 1 0
unfolding passed stands_at keep_if repeated
stands_d0 = ap (stands_at (Place.extended_state 0)) (counted_passed repeated)

-- D.0 is of the first entry of page 1, counted from that page's beginning: not of page 0's first
pub d0_on_page_1 : origin_at first_edition repeated (Place.extended_state 0) ≡ entry 1 0
unfolding is_made_here
d0_on_page_1 = required_origin (Place.extended_state 0) (lit< tt) refl refl stands_d0

-- B.0 is made here, although the page set has an entry for it
pub b0_made_here : (stands_at Place.thread_level (counted repeated) ≡ entry 0 4) × (origin_at first_edition repeated Place.thread_level ≡ made_here)
unfolding passed stands_at keep_if repeated is_made_here
b0_made_here = (
  ap (stands_at Place.thread_level) (counted_passed repeated),
  (rows_have_origins first_edition repeated repeated_accepted Place.thread_level (lit< tt)).made.1 refl,
)
