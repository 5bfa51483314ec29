-- `snp_cpuid_first_entry` meets its contract: the first entry's numbers.
use borrow.Author.Rules.{rules}
use Rattle.snp_cpuid.proofs.snp_cpuid_first_entry.Goals as goal

pub returns : goal.returns
returns c =
    rw (← c.first_entry-first.ensures) c.first_numbers.ensures
