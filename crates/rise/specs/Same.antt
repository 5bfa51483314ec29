-- Two servers that rise to each other have the same answer except for origins: the same table, and with it the same image and lookups.
use Rattle.std.specs.Prelude.{List, ℕ}
use Rattle.table.specs.declared.Choices.{Choices}
use Rattle.build.specs.Built.{SameButOrigins}
use Rattle.build.specs.Build.{answer}
use Rattle.rise.specs.Rise.{RiseHypothesis}

abbrev pub SameFigures : Type 0
SameFigures = (chosen : Choices) (a b : List ℕ) → RiseHypothesis chosen a b → RiseHypothesis chosen b a → SameButOrigins (answer chosen a) (answer chosen b)
