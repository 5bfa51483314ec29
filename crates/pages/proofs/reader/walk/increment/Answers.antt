-- `pages::reader::walk::increment` meets its contract: each return is a law of `incremented`.
use mathlib.Core.Path.{sym, ◌∙◌}
use native.Mathlib.Omega.{arith}
use Rattle.pages.specs.WalkLaws.{next_here, next_later, incremented_inside}
use Rattle.pages.proofs.reader.walk.increment.Goals as goal

pub returns-then-after-count : goal.returns-then-after-count
returns-then-after-count c =
    let k = c.requires in
    sym (incremented_inside _ _ _ k.inside.page ∙ next_here _ _ _ k.inside.page (omega (arith, k.count)))

pub returns : goal.returns
returns c =
    let k = c.requires in
    c.later_page.ensures ∙ sym (incremented_inside _ _ _ k.inside.page ∙ next_later _ _ _ k.inside.page (omega (arith, k.count)))
