-- `lines::digits::put_digits` meets its contract. The loop's invariant: storing the digits that are left gives what storing all gives.
use mathlib.Core.Path.{◌∙◌}
use native.Mathlib.Omega.{arith}
use Rattle.lines.specs.DigitsLaws.{digits_more, digits_none}
use Rattle.lines.proofs.digits.put_digits.Goals as goal

pub loop-left-preserved : goal.loop-left-preserved
loop-left-preserved c =
    let l = c.loop-left in
    rw c.capital.ensures (digits_more l.out c.args.at c.args.base l.left l.rest (omega arith) ∙ l.invariant)

pub returns : goal.returns
returns c =
    let l = c.loop-left in
    digits_none l.out c.args.at c.args.base l.left l.rest (omega arith) ∙ l.invariant
