-- `lines::digits::width_of` meets its contract: one digit, and one more for each power of ten that is reached.
use borrow.Author.Rules.{rules}
use Rattle.bits.specs.Lists.{sum_to}
use Rattle.lines.specs.Digits.{width}
use Rattle.bits.specs.TestLaws.{from_bool_one}
use Rattle.lines.proofs.digits.width_of.Goals as goal

pub returns : goal.returns
unfolding width sum_to
returns c = search (rules, from_bool_one)
