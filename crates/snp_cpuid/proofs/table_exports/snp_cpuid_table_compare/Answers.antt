-- `snp_cpuid_table_compare` meets its contract: the comparison's answer as numbers.
use borrow.Author.Rules.{rules}
use mathlib.Core.Path.{ap, ◌∙◌}
use Rattle.answers.specs.ComparedAnswers.{tables_compared_numbers}
use Rattle.snp_cpuid.proofs.table_exports.snp_cpuid_table_compare.Goals as goal

pub returns : goal.returns
returns c = c.from.ensures ∙ ap tables_compared_numbers c.compare_tables.ensures.value
