-- `snp_cpuid_guest_build` meets its contract: the guest's answer as numbers.
use borrow.Author.Rules.{rules}
use mathlib.Core.Path.{ap₂, ◌∙◌}
use Rattle.answers.specs.Answers.{held_numbers}
use Rattle.snp_cpuid.proofs.guest_exports.snp_cpuid_guest_build.Goals as goal

pub returns : goal.returns
returns c =
    rw (← c.processor-v.ensures) (c.table_numbers.ensures ∙ ap₂ held_numbers c.guest_pages-verdict.ensures.verdict c.guest_pages-verdict.ensures.table)
