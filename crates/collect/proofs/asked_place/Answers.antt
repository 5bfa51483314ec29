-- `collect::asked_place` meets its contract: a leaf that is known to be full, leaf Dh by what its place holds, any other leaf by its place.
use mathlib.Core.Path.{sym, ◌∙◌}
use Rattle.collect.specs.CollectLaws.{counted_other}
use Rattle.collect.specs.FullLaws.{asked_found, asked_full}
use Rattle.collect.proofs.asked_place.Goals as goal

pub returns-then-has_leaf : goal.returns-then-has_leaf
returns-then-has_leaf c = asked_full (sym c.has_leaf.ensures ∙ c.if-has_leaf.true)

pub returns : goal.returns
returns c = asked_found (counted_other _ c.if-leaf-eq-EXTENDED_STATE_ENUMERATION.false c.place_of.ensures.value)
