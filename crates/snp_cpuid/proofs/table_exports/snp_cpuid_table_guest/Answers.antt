-- `snp_cpuid_table_guest` meets its contract: the guest's table in place, and its numbers.
use borrow.Author.Rules.{rules}
use mathlib.Core.Path.{refl, ap₂, ◌∙◌}
use Rattle.answers.specs.Answers.{held_numbers}
use Rattle.snp_cpuid.proofs.table_exports.snp_cpuid_table_guest.Goals as goal

pub returns : goal.returns
returns c = record { value = rw (← c.processor-v.ensures) (c.table_numbers.ensures ∙ ap₂ held_numbers c.guest_table-verdict.ensures.verdict c.guest_table-verdict.ensures.table); guest_in = rw (← c.processor-v.ensures) (record { verdict = refl; table = c.guest_table-verdict.ensures.table; origins = λ e. c.guest_table-verdict.ensures.origins (c.guest_table-verdict.ensures.verdict ∙ e) }) }
