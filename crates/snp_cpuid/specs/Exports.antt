-- A lookup and a first entry as the exported functions give them.
use Rattle.std.specs.Prelude.{Bool, ℕ, Option}
use Rattle.build.specs.declared.Built.{Built}
use Rattle.collect.specs.declared.FirstEntry.{FirstEntry}
use Rattle.answers.specs.declared.SnpCpuidFound.{SnpCpuidFound}
use Rattle.answers.specs.declared.SnpCpuidFirst.{SnpCpuidFirst}
use Rattle.answers.specs.Answers.{found_at, first_given}

-- the row of a table that was built, with its origin
abbrev pub found_in : Built → ℕ → Option ℕ → Bool → SnpCpuidFound
found_in b leaf subleaf enforce = found_at b.table b.origins leaf subleaf enforce

abbrev pub first_numbers : FirstEntry → SnpCpuidFirst
first_numbers f = first_given f.verdict f.origin
