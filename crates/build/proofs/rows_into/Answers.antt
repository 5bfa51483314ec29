-- `build::rows_into` meets its contract: by whether the edition is known.
use mathlib.Core.Path.{sym, ◌∙◌}
use Rattle.build.specs.InMemoryLaws.{front_unknown, front_walked}
use Rattle.build.proofs.rows_into.Goals as goal

pub returns-then-known_edition : goal.returns-then-known_edition
returns-then-known_edition c =
    front_walked _ _ _ _ (sym c.known_edition.ensures ∙ c.if-known_edition.true) c.walk_pages.ensures

pub returns : goal.returns
returns c = front_unknown _ _ _ _ (sym c.known_edition.ensures ∙ c.if-known_edition.false) c.requires
