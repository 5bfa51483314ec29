-- `buffer::put_word` meets its contract: the word's bytes are copied over four others.
use Rattle.std.proofs.Common.{◌∙◌, refl}
use Rattle.buffer.specs.Front.{word_bytes}
use Rattle.buffer.specs.FrontLaws.{part_sets}
use Rattle.buffer.proofs.put_word.Goals as goal

pub returns : goal.returns
unfolding word_bytes
returns c = part_sets _ _ _ _ _ (c.copy_from_slice.ensures.after ∙ c.to_le_bytes.ensures) refl c.requires
