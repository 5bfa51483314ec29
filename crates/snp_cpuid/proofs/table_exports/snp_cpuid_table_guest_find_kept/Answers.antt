-- `snp_cpuid_table_guest_find_kept` meets its contract: what the guest finds with the size that was kept, as numbers.
use borrow.Author.Rules.{rules}
use mathlib.Core.Path.{ap, ◌∙◌}
use Rattle.answers.specs.Answers.{found_numbers}
use Rattle.snp_cpuid.proofs.table_exports.snp_cpuid_table_guest_find_kept.Goals as goal

pub returns : goal.returns
returns c =
    rw (← c.processor-v.ensures, ← c.subleaf_of-named.ensures) (c.from.ensures ∙ ap found_numbers c.find_kept.ensures)
