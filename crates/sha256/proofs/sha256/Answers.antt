-- `sha256::sha256` meets its contract: the whole blocks from the message, then one block or two from the padded rest. The loop's invariant: the hash
-- value is that after i blocks of the padded message.
use Rattle.std.proofs.Common.{◌≡◌, ◌/◌, length, ◌∙◌, arith}
use Rattle.sha256.specs.Sha256.{hashed}
use Rattle.sha256.specs.Sha256Laws.{hashed_whole, digest_one, digest_two}
use Rattle.sha256.proofs.sha256.Goals as goal

pub loop-i-init : goal.loop-i-init
unfolding hashed
loop-i-init c = c.start-s.ensures

pub loop-i-preserved : goal.loop-i-preserved
loop-i-preserved c =
    let l = c.loop-i in
    c.block_at-s.ensures ∙ rw l.invariant (hashed_whole c.args.message.now l.i (omega arith))

pub returns-then-rest-lt56 : goal.returns-then-rest-lt56
returns-then-rest-lt56 c =
    let m = c.args.message.now in
    let tail = c.tail_of-tail in
    let all : c.loop-i.i ≡ length m / 64 = omega arith in
    rw (c.digest_of.ensures, c.block_at-one.ensures, c.loop-i.invariant, all)
    (digest_one m tail.result (length m / 64) (omega arith) tail.ensures (omega arith) (omega arith))

pub returns-else-rest-lt56 : goal.returns-else-rest-lt56
returns-else-rest-lt56 c =
    let m = c.args.message.now in
    let tail = c.tail_of-tail in
    let all : c.loop-i.i ≡ length m / 64 = omega arith in
    rw (c.digest_of-else-rest-lt56.ensures, c.block_at-two.ensures, c.block_at-one.ensures, c.loop-i.invariant, all)
    (digest_two m tail.result (length m / 64) (omega arith) tail.ensures (omega arith) (omega arith))
