-- `pages::entry_at` meets its contract: two words and four registers, of which each lies inside its page, are the fields of the entry.
use Rattle.pages.specs.Layout.{entry_at}
use Rattle.pages.specs.LayoutLaws.{registers_of_entry}
use Rattle.pages.proofs.entry_at.Goals as goal

pub returns : goal.returns
unfolding entry_at
returns c = rw (c.word_at.ensures, c.word_at-2.ensures, c.registers_at.ensures, registers_of_entry)
