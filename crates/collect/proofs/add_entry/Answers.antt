-- `collect::add_entry` meets its contract: a new row, a row that was there, or an entry that adds none.
use Rattle.collect.specs.FullLaws.{row_there}
use Rattle.collect.proofs.WalkingLaws.{walking_passed, added_new}
use Rattle.collect.proofs.add_entry.Goals as goal

pub returns-then-origins-place-eq0 : goal.returns-then-origins-place-eq0
returns-then-origins-place-eq0 c =
    added_new _ _ _ _ _ (c.asked_place-place.ensures.found c.if-place-lt-PLACES.true) c.if-place-lt-PLACES.true c.if-origins-place-eq0.true
    c.words-row.ensures c.put_row.ensures

pub returns-then-place-lt-PLACES : goal.returns-then-place-lt-PLACES
returns-then-place-lt-PLACES c =
    let r = row_there _ _ (c.asked_place-place.ensures.found c.if-place-lt-PLACES.true) c.if-place-lt-PLACES.true c.if-origins-place-eq0.false in
    record { turned = λ a f. walking_passed a r.1 (c.with_leaf.ensures.leaves _ r.0 a.walking.full) }

pub returns : goal.returns
returns c =
    record { turned = λ a f. walking_passed a (c.asked_place-place.ensures.passed c.if-place-lt-PLACES.false a.walking.full) a.walking.full }
