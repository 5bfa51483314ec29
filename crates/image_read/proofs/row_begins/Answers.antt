-- `image_read::row_begins` meets its contract: kind and leaf first, then the subleaf, where the run's places are subleaves.
use mathlib.Core.Path.{sym, ap, ◌∙◌}
use Prim.Native.Nat.{ℕ}
use native.Mathlib.Omega.{arith}
use lib.Dec.{eqb}
use Rattle.image_read.specs.BeginsLaws.{opens_long, run_indexed, run_shut, run_whole}
use Rattle.image_read.proofs.row_begins.Goals as goal

pub word_at-requires : goal.word_at-requires
word_at-requires c =
    omega (arith, opens_long c.args.bytes.now c.args.at 25 2 c.args.run.leaf.0 (sym c.row_opens.ensures ∙ c.if-row_opens.true))

pub returns-then-row_opens : goal.returns-then-row_opens
returns-then-row_opens c =
    ap (λ (n : ℕ). eqb n c.args.k) c.word_at.ensures
    ∙ sym
    (run_indexed c.args.bytes.now c.args.at c.args.run c.args.k c.if-run.true
    (sym c.row_opens.ensures ∙ c.if-row_opens.true))

pub returns-then-run : goal.returns-then-run
returns-then-run c =
    sym (run_shut c.args.bytes.now c.args.at c.args.run c.args.k c.if-run.true (sym c.row_opens.ensures ∙ c.if-row_opens.false))

pub returns : goal.returns
returns c =
    c.row_opens-2.ensures ∙ sym (run_whole c.args.bytes.now c.args.at c.args.run c.args.k c.if-run.false)
