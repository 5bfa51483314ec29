-- `write_line` meets its contract: no such line, no room, or the line stored.
use mathlib.Core.Path.{sym, ap}
use native.Mathlib.Omega.{arith}
use Rattle.lines.proofs.LineLaws.{at_most_22}
use Rattle.lines.specs.WriteLine.{AfterLine}
use Rattle.lines.specs.WriteLineLaws.{write_none, write_short, write_whole}
use mathlib.Core.Path.{◌≡◌}
use mathlib.Core.Bool.{true, false}
use Rattle.lines.specs.Line.{writable}
use Rattle.lines.proofs.write_line.Goals as goal

pub put_line-n-requires : goal.put_line-n-requires
put_line-n-requires c = at_most_22 c.args.d

pub returns-then-out-n : goal.returns-then-out-n
returns-then-out-n c = let a = c.args in
    let ok : writable a.d ≡ true = grind arith in
    let e = write_short a.d a.out.now ok (omega (arith, c.put_line-n.ensures.0)) in record { value = sym (ap (λ (o : AfterLine). o.answer) e); out_after = sym (ap (λ (o : AfterLine). o.buffer) e) }

pub returns : goal.returns
returns c =
    let a = c.args in
    let ok : writable a.d ≡ true = grind arith in
    let e = write_whole a.d a.out.now ok (omega (arith, c.put_line-n.ensures.0)) in
    record {
      value = rw c.put_line-n.ensures.0 (sym (ap (λ (o : AfterLine). o.answer) e));
      out_after = rw c.put_line.ensures.1 (sym (ap (λ (o : AfterLine). o.buffer) e));
    }

pub returns-then-not-is_writable : goal.returns-then-not-is_writable
returns-then-not-is_writable c = let a = c.args in
    let none : writable a.d ≡ false = grind arith in
    let e = write_none a.d a.out.now none in record { value = sym (ap (λ (o : AfterLine). o.answer) e); out_after = sym (ap (λ (o : AfterLine). o.buffer) e) }
