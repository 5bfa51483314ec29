-- `snp_cpuid_nearest` meets its contract: the numbers of the nearest bit.
use borrow.Author.Rules.{rules}
use Rattle.snp_cpuid.proofs.nearest_exports.snp_cpuid_nearest.Goals as goal

pub returns : goal.returns
returns c =
    rw (← c.nearest_bit.ensures, c.from.ensures)
