-- `snp_cpuid_write_topologies` meets its contract: the list written, and its answer's numbers.
use mathlib.Core.Path.{ap, ◌∙◌}
use Rattle.answers.specs.Answers.{written_numbers}
use borrow.Author.Rules.{rules}
use Rattle.snp_cpuid.proofs.topology_exports.snp_cpuid_write_topologies.Goals as goal

pub returns : goal.returns
returns c = record { value = c.from.ensures ∙ ap written_numbers c.write_topologies.ensures.0; out_after = c.write_topologies.ensures.1 }
