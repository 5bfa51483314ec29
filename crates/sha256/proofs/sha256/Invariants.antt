-- `sha256::sha256` meets its contract: the whole blocks from the message, then one block or two from the padded rest. The loop's invariant: the hash
-- value is that after i blocks of the padded message.
use Rattle.std.proofs.Common.{◌≡◌}
use Rattle.sha256.specs.Sha256.{padded, hashed}
use Rattle.sha256.proofs.sha256.Given as goal

abbrev pub invariant-loop-i : goal.invariant-loop-i
invariant-loop-i l = l.s ≡ hashed (padded l.message) l.i
