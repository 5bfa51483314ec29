-- `sha256::block::block_at` meets its contract: the first loop reads the block's 16 words, the second makes the 48 others. The invariants: the words
-- up to here are the schedule's.
use Rattle.std.proofs.Common.{◌≡◌, ◌+◌, length, take}
use Rattle.sha256.specs.Block.{words, schedule}
use Rattle.sha256.proofs.block.block_at.Given as goal

abbrev pub invariant-loop-t : goal.invariant-loop-t
invariant-loop-t l = (length l.w ≡ 64) × (take l.t l.w ≡ words l.bytes l.at l.t)

abbrev pub invariant-loop-i : goal.invariant-loop-i
invariant-loop-i l = (length l.w ≡ 64) × (take (16 + l.i) l.w ≡ schedule (words l.bytes l.at 16) l.i)
