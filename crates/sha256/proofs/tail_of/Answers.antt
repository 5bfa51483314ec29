-- `sha256::tail_of` meets its contract: the rest is copied, then the mark, then the length at the end of the first block or the second.
use Rattle.std.proofs.Common.{◌≡◌, ◌+◌, ◌-◌, ◌%◌, length, ◌∙◌, arith}
use Rattle.sha256.specs.Sha256Laws.{tail_padded}
use Rattle.sha256.proofs.tail_of.Goals as goal
use Rattle.sha256.proofs.tail_of.Goals.{then-used-lt56, else-used-lt56}

pub returns : goal.returns
returns c =
    let rest = c.args.rest.now in
    let n = c.args.n in
    let at = c.if-used-lt56.at in
    let place : at ≡ length rest + 1 + (119 - n % 64) % 64 =
    elim c.if-used-lt56.branch [ then-used-lt56 w ↦ omega arith | else-used-lt56 w ↦ omega arith ]
    in
    let stored = c.copy_from_slice-2.ensures.after ∙ c.length_field.ensures in
    rw c.copy_from_slice.ensures.after (tail_padded rest _ n at (at + 8 - at) c.requires place (omega arith) (omega arith) stored)
