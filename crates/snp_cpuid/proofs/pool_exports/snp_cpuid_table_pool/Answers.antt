-- `snp_cpuid_table_pool` meets its contract: the pool's answer as numbers, and its table in the caller's memory.
use borrow.Author.Rules.{rules}
use mathlib.Core.Path.{refl, sym, subst, ◌∙◌}
use Prim.Native.Nat.{ℕ, ◌^◌, ◌<◌}
use Rattle.pool.proofs.PooledLaws.{server_below}
use Rattle.snp_cpuid.specs.PoolExports.{pooled_in}
use Rattle.snp_cpuid.proofs.pool_exports.snp_cpuid_table_pool.Goals as goal

pub pooled_numbers-requires : goal.pooled_numbers-requires
pooled_numbers-requires c =
    subst (λ (n : ℕ). n < 2 ^ 32) (sym c.pool_into-pooled.ensures.server) (server_below _ _ _)

pub returns : goal.returns
returns c = record { value = c.pooled_numbers.ensures ∙ pooled_in c.pool_into-pooled.ensures c.row_count.ensures c.combined_mask.ensures; pooled_in = record { verdict = refl; server = refl; registers = c.pool_into-pooled.ensures.registers; origins = c.pool_into-pooled.ensures.origins; table = c.pool_into-pooled.ensures.table } }
