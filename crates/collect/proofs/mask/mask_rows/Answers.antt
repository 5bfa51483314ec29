-- `collect::mask::mask_rows` meets its contract: basic and extended leaves, then D.0.
use Rattle.collect.proofs.MaskLaws.{masked_both, masked_last}
use Rattle.collect.proofs.mask.mask_rows.Goals as goal

pub returns : goal.returns
returns c =
    masked_last c.requires (masked_both c.mask_basic.ensures c.mask_extended.ensures)
    (rw (c.put_row.ensures, c.legacy_row-legacy.ensures, c.is_there-there.ensures, c.row_at-state.ensures))
