-- `snp_cpuid_table_guest_find` meets its contract: what the guest finds, as numbers.
use borrow.Author.Rules.{rules}
use mathlib.Core.Path.{ap, ◌∙◌}
use Rattle.answers.specs.Answers.{guest_found_numbers}
use Rattle.snp_cpuid.proofs.table_exports.snp_cpuid_table_guest_find.Goals as goal

pub returns : goal.returns
returns c =
    rw (← c.processor-v.ensures, ← c.subleaf_of-named.ensures) (c.from.ensures ∙ ap guest_found_numbers c.guest_find.ensures)
