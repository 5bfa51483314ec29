-- `nearest::nearest_bit` meets its contract: 15, 1, 2 or 17, or the search.
use mathlib.Core.Path.{sym, ◌∙◌}
use Rattle.build.proofs.BuildLaws.{front_known, front_lawful}
use Rattle.build.specs.InMemoryLaws.{rows_held}
use Rattle.nearest.specs.NearestFrontLaws.{searched}
use Rattle.nearest.proofs.nearest_bit.Goals as goal

pub search_flips-requires : goal.search_flips-requires
search_flips-requires c =
    let front = sym c.rows_into.ensures.verdict ∙ c.in_ok-rows_into.was in
    (front_known c.args.choices _ front, front_lawful c.args.choices _ front, rows_held c.args.choices _ _ _ c.rows_into.ensures c.in_ok-rows_into.was)

pub returns : goal.returns
returns c =
    c.search_flips.ensures ∙ sym (searched _ _ (sym c.rows_into.ensures.verdict ∙ c.in_ok-rows_into.was))
