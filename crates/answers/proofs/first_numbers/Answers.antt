-- `answers::first_numbers` meets its contract: the verdict's numbers, and the origin read back.
use borrow.Author.Rules.{rules}
use Rattle.answers.proofs.first_numbers.Goals as goal

pub returns : goal.returns
returns c = rw (c.from-numbers.ensures, c.read_origin-read.ensures)
