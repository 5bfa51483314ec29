-- `nearest::search::same_numbers` meets its contract: the derived comparison is the definition's, field by field.
use Rattle.nearest.specs.SameVerdict.{same_numbers}
use Rattle.nearest.proofs.search.same_numbers.Goals as goal

pub returns : goal.returns
unfolding same_numbers
returns c = c.eq.ensures
