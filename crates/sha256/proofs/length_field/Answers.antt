-- `sha256::length_field` meets its contract: eight bytes of the length in bits.
use Rattle.std.proofs.Common.{◌∙◌}
use Rattle.sha256.specs.Sha256Laws.{bytes_as, length_cut}
use Rattle.sha256.proofs.length_field.Goals as goal

pub returns : goal.returns
returns c = c.to_be_bytes.ensures ∙ bytes_as 8 _ ∙ length_cut c.args.n
