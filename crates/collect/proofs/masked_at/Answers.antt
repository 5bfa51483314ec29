-- `collect::masked_at` meets its contract: at D.0 and elsewhere.
use borrow.Author.Tests.{eq-eqb}
use Rattle.bits.specs.Bits.{mask_of}
use Rattle.collect.specs.FirstEntries.{legacy_features}
use Rattle.collect.proofs.masked_at.Goals as goal

pub returns-then-place-eq-EXTENDED_STATE_0 : goal.returns-then-place-eq-EXTENDED_STATE_0
unfolding legacy_features mask_of
returns-then-place-eq-EXTENDED_STATE_0 c = rw (eq-eqb _ _ c.if-place-eq-EXTENDED_STATE_0.true, c.apply_mask-masked.ensures)
