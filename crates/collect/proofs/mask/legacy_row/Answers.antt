-- `collect::mask::legacy_row` meets its contract: with a row and without.
use Rattle.bits.specs.Bits.{mask_of}
use Rattle.collect.specs.FirstEntries.{legacy_features}
use Rattle.collect.proofs.mask.legacy_row.Goals as goal

pub returns-then-there : goal.returns-then-there
unfolding legacy_features mask_of
returns-then-there c = rw c.if-there.true
