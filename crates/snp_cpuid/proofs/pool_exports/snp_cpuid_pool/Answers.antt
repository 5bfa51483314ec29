-- `snp_cpuid_pool` meets its contract: the pool's answer as numbers.
use borrow.Author.Rules.{rules}
use mathlib.Core.Path.{sym, subst, ◌∙◌}
use Prim.Native.Nat.{ℕ, ◌^◌, ◌<◌}
use Rattle.pool.proofs.PooledLaws.{server_below}
use Rattle.snp_cpuid.specs.PoolExports.{pooled_in}
use Rattle.snp_cpuid.proofs.pool_exports.snp_cpuid_pool.Goals as goal

pub pooled_numbers-requires : goal.pooled_numbers-requires
pooled_numbers-requires c =
    subst (λ (n : ℕ). n < 2 ^ 32) (sym c.pool_into-pooled.ensures.server) (server_below _ _ _)

pub returns : goal.returns
returns c =
    c.pooled_numbers.ensures ∙ pooled_in c.pool_into-pooled.ensures c.row_count.ensures c.combined_mask.ensures
