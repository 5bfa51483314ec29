-- `snp_cpuid_compare` meets its contract: the comparison's numbers.
use mathlib.Core.Path.{ap, ◌∙◌}
use Rattle.answers.specs.ComparedAnswers.{compared_numbers}
use borrow.Author.Rules.{rules}
use Rattle.snp_cpuid.proofs.snp_cpuid_compare.Goals as goal

pub returns : goal.returns
returns c =
    c.from.ensures ∙ ap compared_numbers c.compare.ensures.value
