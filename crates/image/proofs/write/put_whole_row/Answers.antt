-- `image::write::put_whole_row` meets its contract: byte 1, a word and the registers one after another.
use mathlib.Core.Path.{◌∙◌}
use Rattle.image.specs.PiecesLaws.{whole_sets}
use Rattle.image.proofs.write.put_whole_row.Goals as goal

pub returns : goal.returns
returns c =
    c.put_registers.ensures ∙ rw c.put_word.ensures (whole_sets _ _ _ _)
