-- The answers about lines as the exported functions give them: plain numbers, and whether there is such a line.
use Rattle.std.specs.Prelude.{Bool, ℕ, None, Option, Some}
use Rattle.table.specs.Numbers.{named, subleaf_or0, subleaf_of}
use Rattle.lines.specs.declared.bytes.LineDetails.{LineDetails}
use Rattle.answers.specs.declared.line.SnpCpuidLineWritten.{SnpCpuidLineWritten}
use Rattle.answers.specs.declared.line.SnpCpuidLineRead.{SnpCpuidLineRead}
use Rattle.answers.specs.Answers.{written_numbers}
use Rattle.buffer.specs.Written.{Written}

-- what a caller gives: the subleaf counts only where there is one
abbrev pub details_given : ℕ → ℕ → Bool → ℕ → ℕ → LineDetails
details_given number leaf has subleaf s = record { number = number; leaf = leaf; subleaf = subleaf_of has subleaf; s = s }

-- the length, or 9, or no such line
abbrev pub line_written_numbers : Option Written → SnpCpuidLineWritten
line_written_numbers (Some w) = record { is_line = 1; number = (written_numbers w).number; length = (written_numbers w).length }
line_written_numbers None = record { is_line = 0; number = 0; length = 0 }

abbrev pub line_read_numbers : Option LineDetails → SnpCpuidLineRead
line_read_numbers (Some d) = record {
  is_line = 1;
  number = d.number;
  leaf = d.leaf;
  has_subleaf = named d.subleaf;
  subleaf = subleaf_or0 d.subleaf;
  s = d.s;
}
line_read_numbers None = record { is_line = 0; number = 0; leaf = 0; has_subleaf = 0; subleaf = 0; s = 0 }
