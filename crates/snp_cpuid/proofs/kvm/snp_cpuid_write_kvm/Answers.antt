-- `snp_cpuid_write_kvm` meets its contract: the list written, and its answer's numbers.
use mathlib.Core.Path.{ap, ◌∙◌}
use Rattle.answers.specs.Answers.{written_numbers}
use borrow.Author.Rules.{rules}
use Rattle.snp_cpuid.proofs.kvm.snp_cpuid_write_kvm.Goals as goal

pub returns : goal.returns
returns c = record { value = c.from.ensures ∙ ap written_numbers c.write_list.ensures.value; out_after = c.write_list.ensures.out_after }
