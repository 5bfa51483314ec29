-- Examples of P13's order: a page set whose first entry, on page 0, decides nothing, and whose nearest bit stands on page 1; and one whose nearest
-- bit stands in the second entry of its page.
use Rattle.std.specs.Prelude.{◌≡◌, refl, Bool, true, false, ℕ, zero, suc, ◌/◌, ◌%◌, ◌<◌, drop, Ok}
use Rattle.std.proofs.Math.Path.{ap₂}
use Rattle.std.proofs.Common.{◌∙◌, arith, lit<}
use mathlib.Core.List.{List, [], ◌∷◌, ◌++◌}
use Rattle.bits.specs.ChoiceLaws.{pick_true, pick_false}
use Rattle.bits.specs.Lists.{tabulate}
use Rattle.pages.specs.Bytes.{are_bytes, bytes_at}
use Rattle.pages.specs.Layout.{Entry, entry_at, entries_at, page_size, entry_size, pages_in}
use Rattle.pages.specs.Entries.{entries}
use Rattle.masking.specs.Kept.{places}
use Rattle.table.specs.declared.Choices.{Choices}
use Rattle.table.specs.Edition.{known_edition}
use Rattle.collect.specs.Collect.{stored_at}
use Rattle.build.specs.Build.{edition_verdict, front_verdict, answer}
use Rattle.collect.specs.Lawful.{lawful_verdict}
use Rattle.nearest.specs.declared.flips.Flip.{Flip}
use Rattle.nearest.specs.Flips.{flip, flipped, flips_of, flips_in, flips}
use Rattle.nearest.specs.SameVerdict.{same_result, same_rows, same_table, same_numbers, same_answer}
use Rattle.nearest.specs.Changes.{changes}
use Rattle.nearest.specs.Nearest.{first_that, unless_refused, nearest}
use Rattle.nearest_exactly.specs.OutsideLaws.{Among, not_first}
use Rattle.page_sets.specs.PageSets.{entry, page, required_entries, state_entries, with_first}
use Rattle.page_sets.specs.Pass.{entry_in, on_pages_in}
use Rattle.page_sets.specs.PassLaws.{entries_passed, lawful_passed, verdict_passed}
use Rattle.page_sets.specs.Evaluation.{first_edition, evaluated, passed}
use Rattle.examples.specs.NearestPassed.{changes_passed}
use Rattle.table.specs.Verdict.{Verdict}

-- ---- an entry whose 128 flips change nothing is passed over

skipped : (test : Flip → Bool) (n : ℕ) (g : ℕ → Flip) (after : List Flip) → ((i : ℕ) → i < n → test (g i) ≡ false)
    → first_that test (tabulate n g ++ after) ≡ first_that test after
unfolding first_that tabulate
skipped test zero g after h = refl
skipped test (suc n) g after h = pick_false _ _ (h 0 (omega arith)) ∙ skipped test n (λ i. g (suc i)) after (λ i l. h (suc i) (omega arith))

module _ (c : Choices) (s : List ℕ) where
  nearest_second : (d e : Entry) (es : List Entry) → entries s ≡ d ∷ e ∷ es → front_verdict c s ≡ Ok tt
      → ((r k : ℕ) → r < 4 → k < 32 → changes c s (flip d.page d.position r k) ≡ false)
      → changes c s (flip e.page e.position 0 0) ≡ true → nearest c s ≡ Ok (flip e.page e.position 0 0)
  unfolding nearest flips flips_in flips_of
  nearest_second d e es p v n h =
      ap₂ (λ (x : Verdict) (l : List Entry). unless_refused x (first_that (changes c s) (flips_in l))) v p
      ∙ skipped (changes c s) 128 (λ i. flip d.page d.position (i / 32) (i % 32)) (flips_in (e ∷ es))
      (λ i l. n (i / 32) (i % 32) (omega arith) (omega arith))
      ∙ at_once
    where
      at_once : first_that (changes c s) (flips_in (e ∷ es)) ≡ Ok (flip e.page e.position 0 0)
      at_once = unfold first_that tabulate in pick_true _ _ h

-- a first entry that goes to no place decides nothing
first_nothing : (s : List ℕ) → are_bytes s ≡ true → 0 < pages_in s → lawful_verdict s ≡ Ok tt → (after : List Entry)
    → entries s ≡ entry_at s 0 0 ∷ after → stored_at (entry_at s 0 0) ≡ places
    → (r k : ℕ) → r < 4 → k < 32 → changes first_edition s (flip 0 0 r k) ≡ false
first_nothing s bytes one lawful after order stored r k l u = not_first first_edition s 0 0 r k among (λ i f. omega (arith, f.place, f.here, stored))
  where
    among : Among first_edition s 0 0 r k
    among = record {
      inside = record { bytes = bytes_at s bytes; page = one; entry = lit< tt; register = l; bit = u };
      known = unfold known_edition in refl;
      lawful = lawful;
      before = [];
      after = after;
      order = order;
    }

-- ---- a later page: page 0 holds one entry, of a leaf that is not kept; everything else stands on page 1

unfoldable pub page_set : List ℕ
page_set = page 1 (entry 0x40000000 0 1 2 3 4) ++ page 25 (required_entries 0x3ED83203 0x219C07A9 0x3F ++ state_entries 0x7 0x7 0)

pub page_accepted : (answer first_edition page_set).verdict ≡ Ok tt
unfolding passed page_set
page_accepted = verdict_passed first_edition page_set

page_flipped : (answer first_edition (flipped page_set (flip 1 0 0 0))).verdict ≡ Ok tt
unfolding passed page_set flipped
page_flipped = verdict_passed first_edition (flipped page_set (flip 1 0 0 0))

page_changes : changes first_edition page_set (flip 1 0 0 0) ≡ true
unfolding passed page_set flipped same_answer same_numbers same_table same_rows same_result
page_changes = changes_passed first_edition page_set (flip 1 0 0 0) page_flipped (verdict_passed first_edition page_set)

page_lawful : lawful_verdict page_set ≡ Ok tt
unfolding passed page_set
page_lawful = lawful_passed page_set

page_bytes_lem : are_bytes page_set ≡ true
unfolding page_set are_bytes
page_bytes_lem = refl

-- the entry that decides, and those after it
abbrev page_entry : Entry
page_entry = entry_in 1 0 (drop entries_at (drop page_size page_set))

abbrev page_after : List Entry
page_after = drop 2 (on_pages_in 0 2 page_set)

page_entries : entries page_set ≡ entry_at page_set 0 0 ∷ page_entry ∷ page_after
unfolding passed page_set entry_at
page_entries = entries_passed page_set

page_stored : stored_at (entry_at page_set 0 0) ≡ places
unfolding evaluated stored_at page_set
page_stored = refl

page_two : pages_in page_set ≡ 2
unfolding page_set
page_two = refl

page_nothing : (r k : ℕ) → r < 4 → k < 32 → changes first_edition page_set (flip 0 0 r k) ≡ false
page_nothing r k l u =
    first_nothing page_set page_bytes_lem (omega (arith, page_two)) page_lawful (page_entry ∷ page_after) page_entries page_stored r k l u

-- 1.EAX bit 0, in the first entry of page 1
pub page_decides : nearest first_edition page_set ≡ Ok (flip 1 0 0 0)
unfolding entry_at edition_verdict known_edition
page_decides = nearest_second first_edition page_set (entry_at page_set 0 0) page_entry page_after page_entries page_lawful page_nothing page_changes

-- ---- a later entry: D.0 stands first, on page 0, where a Dh entry does not count

unfoldable pub entry_set : List ℕ
entry_set = with_first (entry 0xD 0 0x7 0x340 0x340 0)

pub entry_accepted : (answer first_edition entry_set).verdict ≡ Ok tt
unfolding passed entry_set
entry_accepted = verdict_passed first_edition entry_set

entry_flipped : (answer first_edition (flipped entry_set (flip 0 1 0 0))).verdict ≡ Ok tt
unfolding passed entry_set flipped
entry_flipped = verdict_passed first_edition (flipped entry_set (flip 0 1 0 0))

entry_changes : changes first_edition entry_set (flip 0 1 0 0) ≡ true
unfolding passed entry_set flipped same_answer same_numbers same_table same_rows same_result
entry_changes = changes_passed first_edition entry_set (flip 0 1 0 0) entry_flipped (verdict_passed first_edition entry_set)

entry_lawful : lawful_verdict entry_set ≡ Ok tt
unfolding passed entry_set
entry_lawful = lawful_passed entry_set

entry_bytes_lem : are_bytes entry_set ≡ true
unfolding entry_set are_bytes
entry_bytes_lem = refl

-- the entry that decides, and those after it
abbrev entry_entry : Entry
entry_entry = entry_in 0 1 (drop entry_size (drop entries_at entry_set))

abbrev entry_after : List Entry
entry_after = drop 2 (on_pages_in 0 2 entry_set)

entry_entries : entries entry_set ≡ entry_at entry_set 0 0 ∷ entry_entry ∷ entry_after
unfolding passed entry_set entry_at
entry_entries = entries_passed entry_set

entry_stored : stored_at (entry_at entry_set 0 0) ≡ places
unfolding evaluated stored_at entry_set
entry_stored = refl

entry_two : pages_in entry_set ≡ 2
unfolding entry_set
entry_two = refl

entry_nothing : (r k : ℕ) → r < 4 → k < 32 → changes first_edition entry_set (flip 0 0 r k) ≡ false
entry_nothing r k l u =
    first_nothing entry_set entry_bytes_lem (omega (arith, entry_two)) entry_lawful (entry_entry ∷ entry_after) entry_entries entry_stored r k l u

-- 1.EAX bit 0, in the second entry of page 0
pub entry_decides : nearest first_edition entry_set ≡ Ok (flip 0 1 0 0)
unfolding entry_at edition_verdict known_edition
entry_decides = nearest_second first_edition entry_set (entry_at entry_set 0 0) entry_entry entry_after entry_entries entry_lawful entry_nothing entry_changes
