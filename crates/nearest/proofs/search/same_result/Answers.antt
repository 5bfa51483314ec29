-- `nearest::search::same_result` meets its contract: the derived comparison is the definition's, field by field.
use Rattle.nearest.specs.SameVerdict.{same_result}
use Rattle.nearest.proofs.search.same_result.Goals as goal

pub returns : goal.returns
unfolding same_result
returns c = c.eq.ensures
