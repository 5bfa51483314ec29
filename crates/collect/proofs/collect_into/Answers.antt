-- `collect::collect_into` meets its contract: before each turn the entries that are left give what all give. The inner loop keeps to one page: a step
-- to position 0 leaves it, so a turn of the outer one ends on a later page.
use borrow.Author.Rules.{rules}
use native.Mathlib.Omega.{arith}
use Prim.Native.Nat.{◌^◌, ◌<◌}
use lib.ListN.{length}
use Rattle.pages.specs.WalkLaws.{turn}
use Rattle.collect.specs.FirstEntryOriginLaws.{number_fits}
use mathlib.Core.Path.{refl, sym, ◌∙◌}
use Rattle.pages.specs.Walk.{incremented}
use Rattle.pages.specs.ReadLaws.{read_entry}
use Rattle.bits.specs.Bits.{bit, has}
use Rattle.masking.specs.Kept.{kept_leaves, slot}
use Rattle.collect.specs.Full.{leaf_number}
use Rattle.collect.specs.FullLaws.{none_kept}
use Rattle.collect.specs.WalkingLaws.{Walking, AtEntry}
use Rattle.collect.proofs.WalkingLaws.{walking_first, walking_last, walking_stops, walking_falls, walking_leaves, walking_stays}
use Rattle.collect.proofs.collect_into.Goals as goal
use Rattle.collect.proofs.collect_into.Goals.{After-add_entry-after}

pub loop-index-init : goal.loop-index-init
unfolding none_kept leaf_number slot kept_leaves has bit
loop-index-init c = let z = c.requires.1 in rw (c.start-index.ensures, z.0, z.1) (walking_first _ _ refl)

-- the page of the inner loop is one of the pages
pub entry_number-origin-requires : goal.entry_number-origin-requires
entry_number-origin-requires c =
    let h : c.loop-entry.index.page_index < _ = rw (c.page_count-n.ensures, ← c.loop-entry.invariant.1) at c.loop-index-test.true in
    let short : length c.args.pages.now < 2 ^ 64 = search rules in
    number_fits _ c.requires.0 short _ _ h (turn _ _ c.loop-entry.invariant.0.valid h).below

-- a turn at an entry that is clean, once it is added
at_entry : (c : After-add_entry-after) → AtEntry c.args.pages.now c.loop-entry.registers c.loop-entry.origins c.loop-entry.full
    c.loop-entry.index c.in-Ok.entry
at_entry c =
    let read = read_entry _ _ (sym c.in-Ok.is ∙ c.take-read.ensures) in
    record {
      walking = c.loop-entry.invariant.0;
      inside = rw (c.page_count-n.ensures, ← c.loop-entry.invariant.1) at c.loop-index-test.true;
      entry = read.0;
      clean = read.1;
    }

walks : (c : After-add_entry-after)
    → Walking c.args.pages.now c.add_entry-after.new.registers c.add_entry-after.new.origins c.add_entry-after.result
    (incremented c.args.pages.now c.loop-entry.index)
walks c = c.add_entry-after.ensures.turned (at_entry c) c.entry_number-origin.ensures

-- a step to position 0 leaves the page
pub loop-index-smaller : goal.loop-index-smaller
loop-index-smaller c =
    let h = rw c.page_count-n.ensures at c.loop-index-test.true in
    let z = walking_leaves (at_entry (goal.at.loop-index-smaller c).After-add_entry-after) (rw c.step-next.ensures at c.if-index-eq0.true) in
    rw c.step-next.ensures (omega (arith, h, z, c.loop-entry.invariant.1))

pub loop-index-preserved : goal.loop-index-preserved
loop-index-preserved c = rw c.step-next.ensures (walks (goal.at.loop-index-preserved c).After-add_entry-after)

pub loop-entry-smaller : goal.loop-entry-smaller
loop-entry-smaller c = rw c.step-next.ensures (walking_falls (at_entry (goal.at.loop-entry-smaller c).After-add_entry-after))

pub loop-entry-preserved : goal.loop-entry-preserved
loop-entry-preserved c =
    let a = (goal.at.loop-entry-preserved c).After-add_entry-after in
    rw c.step-next.ensures (walks a, walking_stays (at_entry a) (rw c.step-next.ensures at c.if-index-eq0.false) ∙ c.loop-entry.invariant.1)

pub returns-in-Err : goal.returns-in-Err
returns-in-Err c =
    walking_stops _ _ _ _ _ c.loop-entry.invariant.0 (rw (c.page_count-n.ensures, ← c.loop-entry.invariant.1) at c.loop-index-test.true)
    (sym c.in-Err.is ∙ c.take-read.ensures)

pub returns : goal.returns
returns c = walking_last _ _ _ _ _ c.loop-index.invariant (rw c.page_count-n.ensures at c.loop-index-test.false)
