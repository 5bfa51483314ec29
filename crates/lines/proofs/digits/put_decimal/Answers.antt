-- `lines::digits::put_decimal` meets its contract: as many digits as the number has.
use native.Mathlib.Omega.{arith}
use Rattle.lines.specs.Digits.{width}
use Rattle.lines.specs.DigitsLaws.{length_digits}
use Rattle.lines.proofs.digits.put_decimal.Goals as goal

pub put_digits-requires : goal.put_digits-requires
put_digits-requires c =
    let n = c.args.n in
    (omega (arith, length_digits 10 (width n) n, c.width_of-count.ensures.0), omega arith, omega arith)

pub returns : goal.returns
returns c =
    let n = c.args.n in
    let w = c.width_of-count.ensures.0 in
    (omega (arith, length_digits 10 (width n) n), rw (← w) c.put_digits.ensures)
