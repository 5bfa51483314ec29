-- `read_line` meets its contract: no line is written for what was guessed, or the line that is written is compared.
use mathlib.Core.Path.{sym, ap, ◌∙◌}
use native.Mathlib.Omega.{arith}
use lib.ListN.{length, replicate, length-take}
use lib.Seq.{length-sets}
use Rattle.bits.specs.ChoiceLaws.{never_both}
use Rattle.lines.specs.Line.{line}
use Rattle.lines.proofs.LineLaws.{at_most_22}
use Rattle.lines.specs.WriteLineLaws.{front}
use Rattle.lines.proofs.ReadLineLaws.{read_none, read_same, read_other}
use Rattle.lines.proofs.read_line.Goals as goal

pub put_line-n-requires : goal.put_line-n-requires
put_line-n-requires c = at_most_22 c.guess_details-d.result

pub slice_bounds-bytes-end : goal.slice_bounds-bytes-end
slice_bounds-bytes-end c =
    let put = c.put_line-n.ensures in
    omega (arith, at_most_22 c.guess_details-d.result, simp length-sets at (ap length put.1), put.0)

pub slice_bounds-same-end : goal.slice_bounds-same-end
slice_bounds-same-end c =
    let put = c.put_line-n.ensures in
    let g = c.guess_details-d.result in
    simp length-take (omega (arith, at_most_22 g, simp length-sets at (ap length put.1), put.0))

pub returns-then-same : goal.returns-then-same
returns-then-same c =
    let g = c.guess_details-d in
    let put = c.put_line-n.ensures in
    let whole = front (line g.result) (replicate 22 0) put.1 put.0 (omega (arith, put.0, at_most_22 g.result)) in
    read_same
    c.args.line.now
    g.ensures
    (sym c.is_writable.ensures ∙ c.if-is_writable.true)
    (sym whole ∙ c.same.ensures.0 c.if-same.true)

pub returns-else-same : goal.returns-else-same
returns-else-same c =
    let g = c.guess_details-d in
    let put = c.put_line-n.ensures in
    let whole = front (line g.result) (replicate 22 0) put.1 put.0 (omega (arith, put.0, at_most_22 g.result)) in
    read_other
    c.args.line.now
    g.ensures
    (sym c.is_writable.ensures ∙ c.if-is_writable.true)
    (λ q. never_both (c.same.ensures.1 (whole ∙ q)) c.if-same.false)

pub returns-else-is_writable : goal.returns-else-is_writable
returns-else-is_writable c =
    read_none c.args.line.now c.guess_details-d.ensures (sym c.is_writable.ensures ∙ c.if-is_writable.false)
