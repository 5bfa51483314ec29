-- `sha256::block::turned` meets its contract: one turn more in each turn of the loop.
use Rattle.std.proofs.Common.{◌≡◌}
use Rattle.sha256.specs.Block.{turns}
use Rattle.sha256.proofs.block.turned.Given as goal

abbrev pub invariant-loop-t : goal.invariant-loop-t
invariant-loop-t l = l.s ≡ turns l.initial.s l.w l.t
