-- `image_read::row_opens` meets its contract: the number of bytes, the kind and the leaf are tested in turn.
use mathlib.Core.Path.{sym, ap, ◌∙◌}
use Prim.Native.Nat.{ℕ}
use native.Mathlib.Omega.{arith}
use lib.Dec.{eqb}
use Rattle.image_read.specs.BeginsLaws.{opens_short, opens_other, opens_kind}
use Rattle.image_read.proofs.row_opens.Goals as goal

pub returns-then-bytes-at : goal.returns-then-bytes-at
returns-then-bytes-at c = sym (opens_short c.args.bytes.now c.args.at c.args.n c.args.kind c.args.leaf.0 c.if-bytes-at.true)

pub returns-then-bytes-at-2 : goal.returns-then-bytes-at-2
returns-then-bytes-at-2 c =
    ap (λ (n : ℕ). eqb n c.args.leaf.0) c.word_at.ensures
    ∙ sym (opens_kind c.args.bytes.now c.args.at c.args.n c.args.kind c.args.leaf.0 (omega arith) c.if-bytes-at-2.true)

pub returns : goal.returns
returns c =
    sym (opens_other c.args.bytes.now c.args.at c.args.n c.args.kind c.args.leaf.0 (omega arith) c.if-bytes-at-2.false)
