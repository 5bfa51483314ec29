-- Document 02, P12: "takes the servers' page sets .. under one edition and one secure-AVIC choice, joins the feature registers of their first
-- entries by and, keeps all else from the first, origins included, and builds a table"; "18 .. first; then any server's own refusal in server
-- order; then 19".
use Rattle.std.specs.Prelude.{List, ℕ, replicate, Err, Ok}
use Rattle.masking.specs.Kept.{places}
use Rattle.table.specs.declared.Choices.{Choices}
use Rattle.table.specs.declared.CpuidResults.{CpuidResults}
use Rattle.table.specs.declared.Refusal.{Refusal}
use Rattle.table.specs.declared.Refusal.TheVariants.{PoolDiffers}
use Rattle.table.specs.Refusal.{and_then}
use Rattle.table.specs.Table.{empty_table}
use Rattle.checks.specs.Checks.{refuse_unless}
use Rattle.finish.specs.RowsBuilt.{table_for}
use Rattle.build.specs.Build.{origins_in}
use Rattle.register_masks.specs.Alike.{all_alike}
use Rattle.pool.specs.Sets.{set_at, last_of, sets_verdict}
use Rattle.pool.specs.Servers.{server_rows, first_refused, servers_verdict, number_of, pool_rows}
use Rattle.pool.specs.declared.Pooled.{Pooled}
use Rattle.table.specs.Verdict.{Verdict}

-- 19
unfoldable pub alike_verdict : Choices → List ℕ → List ℕ → Verdict
alike_verdict c pages lengths = refuse_unless (all_alike c.edition (server_rows c pages lengths) (last_of lengths)) PoolDiffers

unfoldable pub pool_verdict : Choices → List ℕ → List ℕ → Verdict
pool_verdict c pages lengths = and_then (sets_verdict pages lengths) (and_then (servers_verdict c pages lengths) (alike_verdict c pages lengths))

-- the server whose own refusal it is; else 0
abbrev pub server_for : Verdict → ℕ → ℕ
server_for (Ok _) k = k
server_for (Err r) k = 0

unfoldable pub server_named : Choices → List ℕ → List ℕ → ℕ
server_named c pages lengths = server_for (sets_verdict pages lengths) (number_of (first_refused c pages lengths))

-- the table is built of the joined entries, or there is none
abbrev pub pooled_table : Choices → List ℕ → List ℕ → CpuidResults
pooled_table c pages lengths = table_for c.edition (pool_verdict c pages lengths) (pool_rows c pages lengths)

-- "keeps all else from the first, origins included": where each row of the pool's table stands in the first server's pages (document 02, P11)
unfoldable pub pooled : Choices → List ℕ → List ℕ → Pooled
pooled c pages lengths = record {
  verdict = pool_verdict c pages lengths;
  server = server_named c pages lengths;
  table = pooled_table c pages lengths;
  origins = origins_in (pooled_table c pages lengths) (set_at pages lengths 0);
}

-- a refused pool has no rows, and so no origins
abbrev pub refused_pool : Refusal → ℕ → Pooled
refused_pool r k = record { verdict = Err r; server = k; table = empty_table; origins = replicate places 0 }
