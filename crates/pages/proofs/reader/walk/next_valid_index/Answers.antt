-- `pages::reader::walk::next_valid_index` meets its contract: each return is a law of `next_valid`.
use mathlib.Core.Path.{sym, ap, ◌∙◌}
use native.Mathlib.Omega.{arith}
use Rattle.pages.specs.Walk.{index}
use Rattle.pages.specs.WalkLaws.{next_here, next_later, next_end}
use Rattle.pages.proofs.reader.walk.next_valid_index.Goals as goal

pub returns-then-position-count_of : goal.returns-then-position-count_of
returns-then-position-count_of c = sym (next_here _ _ _ (omega arith) (omega arith))

pub returns-then-page-n : goal.returns-then-page-n
returns-then-page-n c = c.skip_empty.ensures ∙ sym (next_later _ _ _ (omega arith) (omega arith))

pub returns : goal.returns
returns c = ap (λ p. index p 0) c.page_count-n.ensures ∙ sym (next_end _ _ _ (omega arith))
