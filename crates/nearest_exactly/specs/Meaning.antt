-- What it is that a flip changes nothing: verdict and table of the two answers are equal.
use Rattle.std.specs.Prelude.{◌≡◌, List, ℕ}
use Rattle.table.specs.declared.Choices.{Choices}
use Rattle.build.specs.Build.{answer}
use Rattle.nearest.specs.declared.flips.Flip.{Flip}
use Rattle.nearest.specs.Flips.{flipped}

abbrev pub Unchanged : Choices → List ℕ → Flip → Type 0
Unchanged c s f = ((answer c (flipped s f)).verdict ≡ (answer c s).verdict) × ((answer c (flipped s f)).table ≡ (answer c s).table)
