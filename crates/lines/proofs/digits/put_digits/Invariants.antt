-- `lines::digits::put_digits` meets its contract. The loop's invariant: storing the digits that are left gives what storing all gives.
use Rattle.std.proofs.Common.{◌≡◌}
use lib.Seq.{sets}
use Rattle.lines.specs.Digits.{digits}
use Rattle.lines.proofs.digits.put_digits.Given as goal

abbrev pub invariant-loop-left : goal.invariant-loop-left
invariant-loop-left l = sets l.out l.at (digits l.base l.left l.rest) ≡ sets l.initial.out l.at (digits l.base l.count l.n)
