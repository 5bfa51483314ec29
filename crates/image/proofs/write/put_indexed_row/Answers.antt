-- `image::write::put_indexed_row` meets its contract: byte 2, two words and the registers one after another.
use mathlib.Core.Path.{◌∙◌}
use Rattle.image.specs.PiecesLaws.{indexed_sets}
use Rattle.image.proofs.write.put_indexed_row.Goals as goal

pub returns : goal.returns
returns c =
    c.put_registers.ensures ∙ rw (c.put_word-2.ensures, c.put_word.ensures) (indexed_sets _ _ _ _ _)
