-- `nearest::search_flips` meets its contract: before each turn the first flip of the entries left is the first of all.
use borrow.Author.Rules.{rules}
use mathlib.Core.Path.{sym, ◌∙◌}
use Prim.Native.Nat.{ℕ, ◌<◌}
use lib.ListN.{get_or}
use Rattle.pages.specs.Walk.{Inside}
use Rattle.pages.specs.WalkLaws.{turn}
use Rattle.collect.proofs.LawfulLaws.{lawful_counts}
use Rattle.nearest.specs.Nearest.{chosen}
use Rattle.nearest.specs.NearestSearchLaws.{searching_first, searching_last, AtEntry}
use Rattle.nearest.proofs.NearestSearchLaws.{entry_falls, entry_present, entry_seen, entry_not_kept, entry_none, entry_decides, no_unclean}
use Rattle.nearest.proofs.search_flips.Goals as goal
use Rattle.nearest.proofs.search_flips.Goals.{After-counted_place-place, In-loop-index, then-place-lt-PLACES+then-seen-place, then-place-lt-PLACES+else-seen-place+in_default, else-place-lt-PLACES}

pub loop-index-init : goal.loop-index-init
loop-index-init c = rw c.start-index.ensures (searching_first _ _)

-- a turn begins inside the pages
inside : (c : In-loop-index) → Inside c.args.pages.now c.loop-index.index
inside c =
    let h : c.loop-index.index.page_index < _ = rw c.page_count-n.ensures at c.loop-index-test.true in
    record { page = h; position = (turn _ _ c.loop-index.invariant.valid h).below }

pub take-read-requires : goal.take-read-requires
take-read-requires c = record { lawful = lawful_counts _ c.requires.1; inside = inside (goal.at.take-read-requires c).In-loop-index }

-- a turn at an entry, once its place is known
at_entry : (c : After-counted_place-place)
    → AtEntry (chosen c.args.secure_avic c.args.edition) c.args.pages.now c.loop-index.seen c.loop-index.index c.in-Ok.entry c.counted_place-place.result
at_entry c =
    record {
      known = c.requires.0;
      lawful = c.requires.1;
      searching = c.loop-index.invariant;
      inside = rw c.page_count-n.ensures at c.loop-index-test.true;
      read = sym c.in-Ok.is ∙ c.take-read.ensures;
      stored = c.counted_place-place.ensures;
    }

bytes : (c : After-counted_place-place) (i : ℕ) → get_or c.args.pages.now i 0 < 256
bytes c i = search rules

-- what was found in the rows once, and the row of a first entry
pub first_bit-bit-requires : goal.first_bit-bit-requires
first_bit-bit-requires c =
    let p = (goal.at.first_bit-bit-requires c).After-counted_place-place in (
      c.if-place-lt-PLACES.true,
      entry_present (at_entry p) (bytes p) c.if-place-lt-PLACES.true c.if-seen-place.false c.requires.2,
      c.check_unflipped-found.ensures,
    )

-- an entry stands among the first 64

pub returns-in-Some : goal.returns-in-Some
returns-in-Some c =
    let p = (goal.at.returns-in-Some c).After-counted_place-place in
    entry_decides (at_entry p) (bytes p) c.if-place-lt-PLACES.true c.if-seen-place.false c.requires.2
    c.kept_leaves-kept.ensures c.mask_row-row.ensures.value c.first_bit-bit.ensures c.in-Some.is

-- what the three ways through a turn leave: a place that was seen, one that is seen now, or no place
pub loop-index-preserved : goal.loop-index-preserved
loop-index-preserved c =
    let p = (goal.at.loop-index-preserved c).After-counted_place-place in
    rw c.step-next.ensures
    (elim c.if-place-lt-PLACES.branch [
      | then-place-lt-PLACES+then-seen-place w ↦ rw w.seen-is (entry_seen (at_entry p) (bytes p) w.if-seen-place.true)
      | then-place-lt-PLACES+else-seen-place+in_default w ↦
          rw w.seen-is (entry_none (at_entry p) (bytes p) w.if-place-lt-PLACES.true w.if-seen-place.false c.requires.2
          c.kept_leaves-kept.ensures w.mask_row-row.ensures.value w.first_bit-bit.ensures w.in_default.is)
      | else-place-lt-PLACES w ↦ rw w.seen-is (entry_not_kept (at_entry p) (bytes p) w.if-place-lt-PLACES.false)
    ])

pub returns-in-Err : goal.returns-in-Err
returns-in-Err c =
    absurd (no_unclean c.requires.1 c.loop-index.invariant (inside (goal.at.returns-in-Err c).In-loop-index).page
    (sym c.in-Err.is ∙ c.take-read.ensures))

pub returns : goal.returns
returns c = searching_last _ _ _ _ c.loop-index.invariant (rw c.page_count-n.ensures at c.loop-index-test.false)

pub loop-index-smaller : goal.loop-index-smaller
loop-index-smaller c = rw c.step-next.ensures (entry_falls (at_entry (goal.at.loop-index-smaller c).After-counted_place-place))
