-- `program::put_refusal` meets its contract: no room, or eleven bytes stored one after another.
use mathlib.Core.Path.{sym, ap}
use Rattle.buffer.specs.Front.{AfterWrite, word_bytes}
use Rattle.program.specs.ProgramBytes.{number_bytes}
use Rattle.buffer.specs.FrontLaws.{front_short, front_whole}
use Rattle.program.proofs.put_refusal.Goals as goal

pub returns-then-out-lt-REFUSAL_BYTES : goal.returns-then-out-lt-REFUSAL_BYTES
returns-then-out-lt-REFUSAL_BYTES c =
    let e = front_short (number_bytes c.args.numbers) c.args.out.now c.if-out-lt-REFUSAL_BYTES.true in
    (ap (λ (o : AfterWrite). o.answer) (sym e), ap (λ (o : AfterWrite). o.buffer) (sym e))

pub returns : goal.returns
unfolding word_bytes
returns c =
    let e = front_whole (number_bytes c.args.numbers) c.args.out.now c.if-out-lt-REFUSAL_BYTES.false in
    rw (c.put_word-2.ensures, c.put_word.ensures, c.subleaf_code.ensures)
    (ap (λ (o : AfterWrite). o.answer) (sym e), ap (λ (o : AfterWrite). o.buffer) (sym e))
