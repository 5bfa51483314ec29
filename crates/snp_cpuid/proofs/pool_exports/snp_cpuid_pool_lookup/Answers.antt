-- `snp_cpuid_pool_lookup` meets its contract: the lookup in the pool's table, with the row's origin.
use borrow.Author.Rules.{rules}
use mathlib.Core.Path.{ap₂, ◌∙◌}
use mathlib.Core.List.{List}
use Prim.Native.Nat.{ℕ}
use Rattle.table.specs.declared.CpuidResults.{CpuidResults}
use Rattle.answers.specs.Answers.{found_at}
use Rattle.snp_cpuid.proofs.pool_exports.snp_cpuid_pool_lookup.Goals as goal

pub returns : goal.returns
returns c =
    rw (← c.subleaf_of-named.ensures)
    (c.found_at.ensures
    ∙ ap₂ (λ (t : CpuidResults) (o : List ℕ). found_at t o c.args.leaf c.subleaf_of-named.result c.args.enforce_subleaf) c.pool_into.ensures.table c.pool_into.ensures.origins)
