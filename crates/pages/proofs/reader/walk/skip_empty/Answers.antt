-- `pages::reader::walk::skip_empty` meets its contract, by the laws of the first entry from a page on. The invariant: from here on the first entry is the
-- one from `page` on. The measure is how many pages are left.
use mathlib.Core.Path.{sym, ap, ◌∙◌}
use native.Mathlib.Omega.{arith}
use Rattle.pages.specs.Walk.{index}
use Rattle.pages.specs.WalkLaws.{first_from_end, first_from_here, first_from_later}
use Rattle.pages.proofs.reader.walk.skip_empty.Goals as goal

pub returns-then-count_of-ne0 : goal.returns-then-count_of-ne0
returns-then-count_of-ne0 c = sym (c.loop-at.invariant.1 ∙ first_from_here _ c.loop-at.at (omega arith) (omega arith))

pub loop-at-preserved : goal.loop-at-preserved
loop-at-preserved c = (omega arith, c.loop-at.invariant.1 ∙ first_from_later _ c.loop-at.at (omega arith) (omega arith))

pub returns : goal.returns
returns c = ap (λ p. index p 0) (omega arith) ∙ sym (c.loop-at.invariant.1 ∙ first_from_end _ c.loop-at.at (omega arith))
