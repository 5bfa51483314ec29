-- A pool's verdict of servers whose pages are read in one pass.
use Rattle.std.specs.Prelude.{◌≡◌, List, ℕ, length}
use Rattle.std.proofs.Math.Path.{ap, ap₂, fun_ext}
use Rattle.bits.specs.Search.{Failing, lowest}
use Rattle.table.specs.declared.Choices.{Choices}
use Rattle.table.specs.declared.Refusal.TheVariants.{PoolDiffers}
use Rattle.table.specs.Refusal.{and_then}
use Rattle.table.specs.Rows.{Rows}
use Rattle.checks.specs.Checks.{refuse_unless}
use Rattle.page_sets.specs.Pass.{passed_verdict, passed_for}
use Rattle.page_sets.specs.PassLaws.{rows_passed, verdict_passed}
use Rattle.page_sets.specs.Evaluation.{passed}
use Rattle.register_masks.specs.Join.{with_server, pool, all_to}
use Rattle.register_masks.specs.Alike.{all_have, alike_to, all_alike}
use Rattle.pool.specs.Sets.{set_start, set_at, last_of, lawful_sets, sets_verdict}
use Rattle.pool.specs.Servers.{is_accepted, first_refused, refused_by, servers_verdict, number_of, server_verdict, server_rows}
use Rattle.pool.specs.Pool.{alike_verdict, pool_verdict, server_for, server_named, pooled}
use Rattle.table.specs.Verdict.{Verdict}

-- the first server that is refused, by the servers' verdicts
abbrev first_of : List ℕ → (ℕ → Verdict) → Failing
first_of lengths v = lowest (λ k. is_accepted (v k)) 0 (length lengths)

-- the pool's verdict and the server that it names, by the servers' verdicts and rows
abbrev verdict_by : Choices → List ℕ → List ℕ → (ℕ → Verdict) → (ℕ → Rows) → Verdict
verdict_by c pages lengths v f =
    and_then (sets_verdict pages lengths)
    (and_then (refused_by (first_of lengths v) v) (refuse_unless (all_alike c.edition f (last_of lengths)) PoolDiffers))

abbrev server_by : List ℕ → List ℕ → (ℕ → Verdict) → ℕ
server_by pages lengths v = server_for (sets_verdict pages lengths) (number_of (first_of lengths v))

module _ (c : Choices) (pages lengths : List ℕ) where
  abbrev verdicts : ℕ → Verdict
  verdicts k = passed_verdict c (set_at pages lengths k)

  abbrev rows : ℕ → Rows
  rows k = passed_for c (set_at pages lengths k)

  unfoldable pub passed_pool : Verdict
  passed_pool = verdict_by c pages lengths verdicts rows

  unfoldable pub passed_server : ℕ
  passed_server = server_by pages lengths verdicts

  -- with every definition open: what unfolds it computes with page bytes
  unfoldable pub pool_opened : Verdict
  unfolding passed passed_pool passed_server with_server pool all_to all_have alike_to all_alike set_start set_at lawful_sets sets_verdict
  pool_opened = passed_pool

  verdicts_passed : server_verdict c pages lengths ≡ verdicts
  verdicts_passed = fun_ext (λ k. verdict_passed c (set_at pages lengths k))

  rows_of_passed : server_rows c pages lengths ≡ rows
  rows_of_passed = fun_ext (λ k. rows_passed c.secure_avic (set_at pages lengths k))

  pub pool_passed : (pooled c pages lengths).verdict ≡ passed_pool
  unfolding pooled pool_verdict servers_verdict first_refused alike_verdict passed_pool
  pool_passed = ap₂ (verdict_by c pages lengths) verdicts_passed rows_of_passed

  pub server_passed : (pooled c pages lengths).server ≡ passed_server
  unfolding pooled server_named first_refused passed_server
  server_passed = ap (server_by pages lengths) verdicts_passed
