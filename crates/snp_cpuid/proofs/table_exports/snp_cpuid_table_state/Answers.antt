-- `snp_cpuid_table_state` meets its contract: the state in use, as numbers.
use borrow.Author.Rules.{rules}
use mathlib.Core.Path.{ap, ◌∙◌}
use Rattle.answers.specs.Answers.{state_numbers}
use Rattle.snp_cpuid.proofs.table_exports.snp_cpuid_table_state.Goals as goal

pub returns : goal.returns
returns c = c.from.ensures ∙ ap state_numbers c.state_in_use.ensures
