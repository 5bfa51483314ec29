-- `put::put_leaf` meets its contract: a space and eight digits, or nothing.
use native.Mathlib.Numerals.{add-one}
use native.Mathlib.Omega.{arith}
use lib.ListN.{length-set}
use Rattle.lines.specs.LineLaws.{length_leaf_named}
use Rattle.lines.specs.DigitsLaws.{length_digits}
use Rattle.lines.proofs.bytes.put.put_leaf.Goals as goal

pub put_digits-requires : goal.put_digits-requires
put_digits-requires c =
    (simp length-set (omega (arith, length_leaf_named c.args.leaf c.if-named.true)), omega arith, omega arith)

pub returns-then-named : goal.returns-then-named
returns-then-named c =
    rw c.if-named.true (omega (arith, length_digits 16 8 c.args.leaf), rw add-one at c.put_digits.ensures)
