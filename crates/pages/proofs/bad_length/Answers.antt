-- `pages::bad_length` meets its contract: each branch is one of the two cases of `bad_length`.
use Rattle.std.proofs.Common.{sym, ◌∙◌}
use Rattle.pages.specs.Layout.{bad_length}
use Rattle.pages.proofs.bad_length.Goals as goal

pub returns-then-is_empty : goal.returns-then-is_empty
unfolding bad_length
returns-then-is_empty c = rw (c.if-is_empty.true, sym c.is_empty.ensures ∙ c.if-is_empty.true)

pub returns-else-is_empty : goal.returns-else-is_empty
unfolding bad_length
returns-else-is_empty c = rw (sym c.is_empty.ensures ∙ c.if-is_empty.false)
