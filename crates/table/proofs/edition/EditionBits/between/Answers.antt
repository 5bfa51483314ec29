-- `EditionBits::between` meets its contract: its rows are those of `further_editions`, by computation.
use Rattle.bits.specs.Bits.{mask_of}
use Rattle.table.specs.Edition.{joined_from, bits_between}
use Rattle.table.proofs.edition.EditionBits.between.Goals as goal

pub returns : goal.returns
unfolding bits_between joined_from mask_of
returns c = rw c.with.ensures
