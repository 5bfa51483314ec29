-- `line_exports::snp_cpuid_read_line` meets its contract: what the line says, in numbers.
use mathlib.Core.Path.{ap, ◌∙◌}
use borrow.Author.Rules.{rules}
use Rattle.answers.specs.LineAnswers.{line_read_numbers}
use Rattle.snp_cpuid.proofs.line_exports.snp_cpuid_read_line.Goals as goal

pub returns : goal.returns
returns c = c.from.ensures ∙ ap line_read_numbers c.read_line.ensures
