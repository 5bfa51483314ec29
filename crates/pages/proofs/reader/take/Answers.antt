-- `pages::reader::take` meets its contract: an entry whose reserved bytes are zero, or the leaf of one where they are not.
use mathlib.Core.Path.{sym, ◌∙◌}
use Rattle.pages.specs.ReadLaws.{readable_within, clean_read, unclean_read}
use Rattle.pages.proofs.reader.take.Goals as goal

pub returns-then-clean_at : goal.returns-then-clean_at
returns-then-clean_at c = clean_read _ _ c.entry_at-entry.ensures (sym c.clean_at.ensures ∙ c.if-clean_at.true)

pub returns : goal.returns
returns c = unclean_read _ _ c.entry_at-entry.ensures (sym c.clean_at.ensures ∙ c.if-clean_at.false)

pub entry_at-entry-requires : goal.entry_at-entry-requires
entry_at-entry-requires c = readable_within c.requires

pub clean_at-requires : goal.clean_at-requires
clean_at-requires c = readable_within c.requires
