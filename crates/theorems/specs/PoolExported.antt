-- Document 02, P12 and P11: with a row that snp_cpuid_pool_lookup finds, it tells where the first server's row came from.
use Rattle.std.specs.Prelude.{◌≡◌, Bool, List, ℕ, Option}
use Rattle.x86defs.specs.declared.CpuidFunction.{CpuidFunction}
use Rattle.table.specs.declared.Choices.{Choices}
use Rattle.build.specs.Build.{origin_at}
use Rattle.lookup.specs.Lookup.{place_asked}
use Rattle.pool.specs.Sets.{set_at}
use Rattle.pool.specs.Pool.{pooled}
use Rattle.answers.specs.declared.SnpCpuidFound.{SnpCpuidFound}
use Rattle.snp_cpuid.specs.PoolExports.{pooled_found}
use Rattle.memory.specs.Origin.{origin_told}
use Rattle.theorems.specs.Exported.{origin_found}

-- what snp_cpuid_pool_lookup gives
abbrev pub pool_seen : Choices → List ℕ → List ℕ → CpuidFunction → Option ℕ → Bool → SnpCpuidFound
pool_seen c pages lengths leaf subleaf enforce = pooled_found (pooled c pages lengths) leaf.0 subleaf enforce

abbrev pub PoolOrigins : Type 0
PoolOrigins = (c : Choices) (pages lengths : List ℕ) (leaf : CpuidFunction) (subleaf : Option ℕ) (enforce : Bool)
    → (pool_seen c pages lengths leaf subleaf enforce).found ≡ 1
    → origin_found (pool_seen c pages lengths leaf subleaf enforce) ≡ origin_told (origin_at c (set_at pages lengths 0) (place_asked leaf subleaf enforce))
