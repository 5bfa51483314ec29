-- What carrying a table answers, as the exported function gives it. 15, 16, 13 and 14 name nothing, so the number is all.
use Rattle.table.specs.Numbers.{numbers_of}
use Rattle.answers.specs.declared.carried_image.SnpCpuidCarried.{SnpCpuidCarried}
use Rattle.std.specs.Prelude.{None, Option, Some}
use Rattle.table.specs.Verdict.{Verdict}

abbrev pub carried_numbers : Option Verdict → SnpCpuidCarried
carried_numbers None = record { is_image = 0; number = 0 }
carried_numbers (Some v) = record { is_image = 1; number = (numbers_of v).number }
