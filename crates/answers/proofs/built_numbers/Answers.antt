-- `answers::built_numbers` meets its contract: the verdict's numbers are those of the verdict as plain numbers.
use borrow.Author.Rules.{rules}
use Rattle.answers.proofs.built_numbers.Goals as goal

pub returns : goal.returns
returns c = rw c.from-numbers.ensures
