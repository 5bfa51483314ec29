-- `snp_cpuid_write_image` meets its contract: the write, and its answer's numbers.
use mathlib.Core.Path.{ap, ◌∙◌}
use Rattle.answers.specs.Answers.{written_numbers}
use borrow.Author.Rules.{rules}
use Rattle.snp_cpuid.proofs.snp_cpuid_write_image.Goals as goal

pub returns : goal.returns
returns c = record { value = c.from.ensures ∙ ap written_numbers c.write_image.ensures.value; out_after = c.write_image.ensures.out_after }
