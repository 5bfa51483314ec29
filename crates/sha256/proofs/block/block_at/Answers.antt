-- `sha256::block::block_at` meets its contract: the first loop reads the block's 16 words, the second makes the 48 others. The invariants: the words
-- up to here are the schedule's.
use Rattle.std.proofs.Common.{◌≡◌, refl, arith, length-set}
use Rattle.sha256.specs.Block.{words, schedule, compress}
use Rattle.sha256.specs.BlockLaws.{words_next, schedule_next, schedule_whole}
use Rattle.sha256.proofs.block.block_at.Goals as goal

pub loop-t-init : goal.loop-t-init
unfolding words
loop-t-init c = (refl, refl)

pub loop-t-preserved : goal.loop-t-preserved
loop-t-preserved c =
    let l = c.loop-t in
    let a = c.args in
    (simp length-set (omega arith), words_next a.bytes.now l.w a.at l.t _ (omega arith) c.word_at.ensures l.invariant.1)

pub loop-i-init : goal.loop-i-init
unfolding schedule
loop-i-init c = let e : c.loop-t.t ≡ 16 = omega arith in (omega arith, rw e at c.loop-t.invariant.1)

pub loop-i-preserved : goal.loop-i-preserved
loop-i-preserved c =
    let l = c.loop-i in
    (simp length-set (omega arith), schedule_next _ l.w l.i _ (omega arith) c.next_word.ensures l.invariant.1)

pub returns : goal.returns
unfolding compress
returns c =
    let l = c.loop-i in
    let e = schedule_whole _ l.w l.i (omega arith) (omega arith) l.invariant.0 l.invariant.1 in
    rw (c.sum_of.ensures, c.turned-s.ensures, e)
