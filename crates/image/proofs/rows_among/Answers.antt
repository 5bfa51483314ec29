-- `image::rows_among` meets its contract. The loop's invariant: `n` counts the rows from `first` up to `i`, and is at most their places.
use mathlib.Core.Path.{sym, ap, ap₂, ◌∙◌}
use Prim.Native.Nat.{◌+◌}
use native.Mathlib.Omega.{arith}
use borrow.Author.Rules.{rules}
use Rattle.bits.specs.Lists.{one}
use Rattle.bits.specs.TestLaws.{from_bool_one, from_bool_few}
use Rattle.image.specs.LengthLaws.{among_none, among_more}
use Rattle.memory.specs.Held.{flags, flag_at}
use Rattle.image.proofs.rows_among.Goals as goal

pub loop-i-init : goal.loop-i-init
loop-i-init c = (sym (among_none _ _), search rules)

pub loop-i-preserved : goal.loop-i-preserved
loop-i-preserved c =
    let l = c.loop-i in
    let a = c.args in
    let o = a.origins.now in
    let more = among_more (flags o) a.first l.i (omega arith) in (
      ap₂ ◌+◌ l.invariant.0 (c.from-n.ensures ∙ from_bool_one _ ∙ ap one (c.is_there.ensures ∙ sym (flag_at o l.i (omega arith)))) ∙ sym more,
      omega (arith, c.from-n.ensures, from_bool_few c.is_there.result),
    )
