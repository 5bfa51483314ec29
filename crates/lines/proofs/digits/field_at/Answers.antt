-- `lines::digits::field_at` meets its contract: a byte below '0' ends the field, or the bytes do. The loop's invariant: what is left gives what the
-- whole field gives.
use mathlib.Core.Path.{◌≡◌, sym, ◌∙◌}
use native.Mathlib.Omega.{arith}
use lib.ListN.{length, drop, drop_of_length-le}
use Rattle.lines.specs.FieldLaws.{field_stop, field_step, field_end}
use Rattle.lines.proofs.digits.field_at.Goals as goal

pub returns-then-b-lt48 : goal.returns-then-b-lt48
returns-then-b-lt48 c =
    let l = c.loop-i in
    let a = c.args in
    let stop = field_stop a.base l.n a.line.now l.i (omega arith) c.if-b-lt48.true in
    record { value_value = stop.0 ∙ l.invariant.0; line_value = stop.1 ∙ l.invariant.1 }

pub loop-i-preserved : goal.loop-i-preserved
loop-i-preserved c =
    let l = c.loop-i in
    let a = c.args in
    let step = field_step a.base l.n a.line.now l.i (omega arith) c.if-b-lt48.false in
    (rw c.more-n.ensures (step.0 ∙ l.invariant.0), step.1 ∙ l.invariant.1)

pub returns : goal.returns
returns c =
    let l = c.loop-i in
    let a = c.args in
    let s = a.line.now in
    let end = field_end a.base l.n s l.i (omega arith) in
    let none : drop (length s) s ≡ drop l.i s = drop_of_length-le s (omega arith) ∙ sym (drop_of_length-le s (omega arith)) in
    record { value_value = end.0 ∙ l.invariant.0; line_value = none ∙ end.1 ∙ l.invariant.1 }
