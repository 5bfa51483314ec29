-- `collect::counted_place` meets its contract: leaf Dh on page 1, Dh elsewhere, any other leaf.
use Rattle.collect.specs.CollectLaws.{counted_dh, uncounted_dh, counted_other}
use Rattle.collect.proofs.counted_place.Goals as goal

pub returns-then-entry-eq1 : goal.returns-then-entry-eq1
returns-then-entry-eq1 c = counted_dh _ c.if-leaf-eq-EXTENDED_STATE_ENUMERATION.true c.if-entry-eq1.true c.place_of.ensures.value

pub returns-then-leaf-eq-EXTENDED_STATE_ENUMERATION : goal.returns-then-leaf-eq-EXTENDED_STATE_ENUMERATION
returns-then-leaf-eq-EXTENDED_STATE_ENUMERATION c = uncounted_dh _ c.if-leaf-eq-EXTENDED_STATE_ENUMERATION.true c.if-entry-eq1.false

pub returns : goal.returns
returns c = counted_other _ c.if-leaf-eq-EXTENDED_STATE_ENUMERATION.false c.place_of-2.ensures.value
