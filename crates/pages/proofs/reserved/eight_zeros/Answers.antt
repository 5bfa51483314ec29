-- `pages::reserved::eight_zeros` meets its contract: eight bytes are zero exactly if their number is.
use Rattle.pages.specs.ZerosLaws.{zeros_by_bytes}
use Rattle.pages.proofs.reserved.eight_zeros.Goals as goal

pub returns : goal.returns
returns c = zeros_by_bytes _ _ c.from_le_bytes-number.ensures
