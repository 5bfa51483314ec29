-- `snp_cpuid_table_write_image` meets its contract: the write of the table's image, and its answer's numbers.
use borrow.Author.Rules.{rules}
use mathlib.Core.Path.{ap, ◌∙◌}
use Rattle.answers.specs.Answers.{written_numbers}
use Rattle.snp_cpuid.proofs.table_exports.snp_cpuid_table_write_image.Goals as goal

pub returns : goal.returns
returns c = record { value = c.from.ensures ∙ ap written_numbers c.write_table.ensures.0; out_after = c.write_table.ensures.1 }
