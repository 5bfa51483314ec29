-- `nearest::search::irrelevant::is_irrelevant` meets its contract: one return a case.
use mathlib.Core.Path.{ap, ◌∙◌}
use mathlib.Core.Bool.{Bool}
use Rattle.nearest.specs.Irrelevant.{refuses, irrelevant_at, irrelevant_by}
use Rattle.nearest.proofs.search.irrelevant.is_irrelevant.Goals as goal

pub returns-then-found : goal.returns-then-found
unfolding irrelevant_by
returns-then-found c = rw c.if-found.true

pub returns-then-found-2 : goal.returns-then-found-2
unfolding irrelevant_by
returns-then-found-2 c = rw (c.if-found.false, c.if-found-2.true)

pub returns : goal.returns
unfolding irrelevant_by
returns c =
    c.irrelevant_at.ensures
    ∙ ap (λ (b : Bool). irrelevant_at b c.args.found.mask c.args.place) (c.is_refused.ensures ∙ ap refuses c.verdict_of.ensures)
    ∙ rw (c.if-found.false, c.if-found-2.false)
