-- `lines::digits::field_at` meets its contract: a byte below '0' ends the field, or the bytes do. The loop's invariant: what is left gives what the
-- whole field gives.
use mathlib.Core.Path.{◌≡◌}
use lib.ListN.{drop}
use Rattle.lines.specs.Field.{field_from, after}
use Rattle.lines.proofs.digits.field_at.Given as goal

abbrev pub invariant-loop-i : goal.invariant-loop-i
invariant-loop-i l = (field_from l.base l.n (drop l.i l.line) ≡ field_from l.base 0 (drop l.from l.line)) × (after (drop l.i l.line) ≡ after (drop l.from l.line))
