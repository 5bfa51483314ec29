-- `program::put_too_long` meets its contract: no room, or one byte stored.
use mathlib.Core.Path.{sym, ap}
use Rattle.buffer.specs.Front.{AfterWrite}
use Rattle.buffer.specs.FrontLaws.{front_short, front_whole}
use Rattle.program.proofs.put_too_long.Goals as goal

pub returns-then-out-lt1 : goal.returns-then-out-lt1
returns-then-out-lt1 c =
    let e = front_short _ c.args.out.now c.if-out-lt1.true in
    (ap (λ (o : AfterWrite). o.answer) (sym e), ap (λ (o : AfterWrite). o.buffer) (sym e))

pub returns : goal.returns
returns c =
    let e = front_whole _ c.args.out.now c.if-out-lt1.false in
    (ap (λ (o : AfterWrite). o.answer) (sym e), ap (λ (o : AfterWrite). o.buffer) (sym e))
