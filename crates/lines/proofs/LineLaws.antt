-- How long a line is, and a line stored piece by piece.
use Rattle.std.specs.Prelude.{refl, ◌≤◌, length}
use Rattle.std.proofs.Common.{arith}
use Rattle.lines.specs.declared.bytes.LineDetails.{LineDetails}
use Rattle.lines.specs.Digits.{width}
use Rattle.lines.specs.DigitsLaws.{length_digits}
use Rattle.lines.specs.NumbersInUse.{names}
use Rattle.lines.proofs.NumbersInUseLaws.{room_few}
use Rattle.lines.specs.Line.{line}
use Rattle.lines.specs.LineLaws.{length_fields, length_leaf, length_parts, length_s, length_subleaf}

pub at_most_22 : (d : LineDetails) → length (line d) ≤ 22
at_most_22 d =
    let k = names d.number in
    omega (
      arith,
      length_parts d,
      length_digits 10 (width d.number) d.number,
      length_fields d {k = names d.number} refl,
      length_leaf k.leaf d.leaf,
      length_subleaf k.subleaf d.subleaf,
      length_s k.s d.s,
      room_few d.number,
    )
