-- `line_exports::snp_cpuid_write_line` meets its contract: the write, and its answer's numbers.
use mathlib.Core.Path.{ap, ◌∙◌}
use borrow.Author.Rules.{rules}
use Rattle.answers.specs.LineAnswers.{line_written_numbers}
use Rattle.snp_cpuid.proofs.line_exports.snp_cpuid_write_line.Goals as goal

pub returns : goal.returns
returns c = record { value = rw (← c.subleaf_of-named.ensures) (c.from.ensures ∙ ap line_written_numbers c.write_line.ensures.value); out_after = rw (← c.subleaf_of-named.ensures) (c.write_line.ensures.out_after) }
