-- `nearest::search::irrelevant::irrelevant_at` meets its contract: one return a case.
use mathlib.Core.Path.{sym, ◌∙◌}
use Rattle.nearest.specs.SearchReturnLaws.{at_component, at_level, at_read, at_unread}
use Rattle.nearest.proofs.search.irrelevant.irrelevant_at.Goals as goal

pub returns-then-place : goal.returns-then-place
returns-then-place c = at_component _ _ _ c.if-place.true c.has_bit64.ensures

pub returns-then-place-2 : goal.returns-then-place-2
returns-then-place-2 c = at_level _ _ _ c.if-place.false c.if-place-2.true

pub returns-then-is_read : goal.returns-then-is_read
returns-then-is_read c = at_read _ _ _ c.if-place.false c.if-place-2.false (sym c.is_read.ensures ∙ c.if-is_read.true)

pub returns : goal.returns
returns c = at_unread _ _ _ c.if-place.false c.if-place-2.false (sym c.is_read.ensures ∙ c.if-is_read.false)
