-- `snp_cpuid_table_find` meets its contract: the lookup in the table that the memory holds.
use borrow.Author.Rules.{rules}
use Rattle.snp_cpuid.proofs.table_exports.snp_cpuid_table_find.Goals as goal

pub returns : goal.returns
returns c = rw (← c.subleaf_of-named.ensures) c.found_at.ensures
