-- One server of a pool by itself: building's verdict; in memory, where it accepts, the masked first entries and the numbers of where each stands,
-- else no rows.
use Rattle.std.specs.Prelude.{List, ℕ}
use Rattle.table.specs.declared.Choices.{Choices}
use Rattle.build.specs.Build.{answer, EntriesIn}
use Rattle.table.specs.Verdict.{Verdict}

abbrev pub ServerIn : Choices → List ℕ → Verdict → List ℕ → List ℕ → Type 0
ServerIn c s = EntriesIn (answer c s).verdict c s
