-- `put::put_line` meets its contract: the number, its details, the newline, one after another.
use mathlib.Core.Path.{refl, ap}
use mathlib.Core.List.{[], ◌∷◌}
use native.Mathlib.Omega.{arith}
use lib.Seq.{length-sets}
use lib.ListN.{length}
use Rattle.lines.specs.Digits.{decimal}
use Rattle.lines.specs.Line.{newline, fields, line}
use Rattle.lines.specs.LineLaws.{length_parts, three_sets}
use Rattle.lines.proofs.LineLaws.{at_most_22}
use Rattle.lines.proofs.bytes.put.put_line.Goals as goal

pub put_decimal-at-requires : goal.put_decimal-at-requires
put_decimal-at-requires c = omega (arith, length_parts c.args.d)

pub put_fields-end-requires : goal.put_fields-end-requires
put_fields-end-requires c =
    let e = simp length-sets at (ap length c.put_decimal-at.ensures.1) in
    omega (arith, length_parts c.args.d, c.put_decimal-at.ensures.0, e)

pub bounds-out-end : goal.bounds-out-end
bounds-out-end c =
    let rest = c.put_fields-end.ensures in
    let e = simp length-sets at (ap length rest.1) in
    let f = simp length-sets at (ap length c.put_decimal-at.ensures.1) in
    omega (arith, length_parts c.args.d, c.put_decimal-at.ensures.0, rest.0, e, f)

pub overflow_add-result : goal.overflow_add-result
overflow_add-result c =
    record {
      fits = omega (
        arith,
        at_most_22 c.args.d,
        length_parts c.args.d,
        c.put_decimal-at.ensures.0,
        c.put_fields-end.ensures.0,
      );
    }

pub returns : goal.returns
unfolding line
returns c =
    let a = c.args in
    let number = c.put_decimal-at.ensures in
    let rest = c.put_fields-end.ensures in (
      omega (arith, length_parts c.args.d, number.0, rest.0),
      three_sets
          a.out.now
          _
          _
          _
          (decimal a.d.number)
          (fields a.d)
          (newline ∷ [])
          0
          _
          _
          number.1
          number.0
          rest.1
          rest.0
          refl,
    )
