-- `buffer::put_registers` meets its contract: four words one after another.
use mathlib.Core.Path.{◌∙◌}
use Rattle.buffer.specs.FrontLaws.{registers_sets}
use Rattle.buffer.proofs.put_registers.Goals as goal

pub returns : goal.returns
returns c =
    c.put_word-4.ensures
    ∙ rw (c.put_word-3.ensures, c.put_word-2.ensures, c.put_word.ensures) (registers_sets _ _ _)
