-- Document 02, P13: whether a flip "changes the table, the refusal or its details; origins don't count".
use Rattle.std.specs.Prelude.{Bool, not, List, ℕ}
use Rattle.table.specs.declared.Choices.{Choices}
use Rattle.build.specs.Build.{answer}
use Rattle.nearest.specs.declared.flips.Flip.{Flip}
use Rattle.nearest.specs.Flips.{flipped}
use Rattle.nearest.specs.SameVerdict.{same_answer}

-- building from the flipped pages answers otherwise than building from the pages
unfoldable pub changes : Choices → List ℕ → Flip → Bool
changes c s f =
    not (same_answer (answer c (flipped s f)).verdict (answer c (flipped s f)).table (answer c s).verdict (answer c s).table)
