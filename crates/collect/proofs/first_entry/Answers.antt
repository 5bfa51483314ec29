-- `collect::first_entry` meets its contract: the pages are not lawful, or what was collected is read at the place.
use Rattle.collect.specs.FirstEntryLaws.{first_unlawful, first_found, first_none}
use Rattle.collect.proofs.first_entry.Goals as goal

pub returns-in-Err : goal.returns-in-Err
returns-in-Err c =
    first_unlawful _ _ _ c.walk_pages-lawful.ensures.verdict c.in-Err.is

pub returns-then-place-lt-PLACES : goal.returns-then-place-lt-PLACES
returns-then-place-lt-PLACES c =
    let w = c.walk_pages-lawful.ensures in
    first_found _ _ _ w.verdict c.in_default.is c.place_of-place.ensures.value (w.stands c.in_default.is) c.if-place-lt-PLACES.true

pub returns : goal.returns
returns c =
    first_none _ _ _ c.walk_pages-lawful.ensures.verdict c.in_default.is c.place_of-place.ensures.value c.if-place-lt-PLACES.false
