-- `names::names_of` meets its contract: the code's rows are the definition's, and past them no number is in use.
use mathlib.Core.Path.{sym}
use native.Mathlib.Omega.{arith}
use borrow.Author.Rules.{rules}
use Rattle.lines.specs.NumbersInUse.{rows, names}
use Rattle.lines.specs.NumbersInUseLaws.{beyond}
use Rattle.lines.proofs.bytes.names.names_of.Goals as goal

pub returns-then-row-lt-NUMBERS : goal.returns-then-row-lt-NUMBERS
unfolding rows names
returns-then-row-lt-NUMBERS c = search rules

pub returns : goal.returns
unfolding rows
returns c = sym (beyond c.args.number (omega arith))
