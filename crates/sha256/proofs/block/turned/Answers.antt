-- `sha256::block::turned` meets its contract: one turn more in each turn of the loop.
use Rattle.std.proofs.Common.{◌+◌, refl}
use Rattle.sha256.specs.Block.{constants, turns}
use Rattle.sha256.specs.BlockLaws.{turns_next}
use Rattle.sha256.proofs.block.turned.Goals as goal

pub loop-t-init : goal.loop-t-init
unfolding turns
loop-t-init c = refl

pub loop-t-preserved : goal.loop-t-preserved
unfolding constants
loop-t-preserved c =
    let l = c.loop-t in
    turns_next c.args.p c.args.w.now l.t (l.t + 1) refl l.invariant c.turn-s.ensures
