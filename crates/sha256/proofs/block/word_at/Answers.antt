-- `sha256::block::word_at` meets its contract: the first byte is the highest.
use Rattle.std.proofs.Common.{◌∙◌, arith}
use Rattle.sha256.specs.Block.{word_at}
use Rattle.sha256.proofs.block.word_at.Goals as goal

pub returns : goal.returns
unfolding word_at
returns c = c.from_be_bytes.ensures ∙ omega arith
