-- `pool::pool_servers` meets its contract: one return a case of the answer.
use mathlib.Core.Path.{◌≡◌}
use native.Mathlib.Omega.{arith}
use Rattle.pool.specs.SetsLaws.{start_first}
use Rattle.pool.proofs.SetsLaws.{first_set, at_least_two, set_ends}
use Rattle.pool.specs.Servers.{server_verdict}
use Rattle.pool.specs.ServersLaws.{part_verdict, part_rows, part_stands}
use Rattle.pool.specs.PoolIn.{pool_in}
use Rattle.pool.proofs.PooledLaws.{pooled_first, pooled_server, pooled_differs, pooled_accepted}
use Rattle.pool.proofs.pool_servers.Goals as goal
use Rattle.pool.proofs.pool_servers.Goals.{After-server_into-first}
use Rattle.table.specs.Verdict.{Verdict}

pub bounds-lengths-0 : goal.bounds-lengths-0
bounds-lengths-0 c = omega (arith, at_least_two c.args.pages.now c.args.lengths.now c.requires)

pub slice_bounds-server_into-end : goal.slice_bounds-server_into-end
slice_bounds-server_into-end c =
    let two = at_least_two c.args.pages.now c.args.lengths.now c.requires in
    omega (arith, start_first c.args.lengths.now, set_ends c.args.pages.now c.args.lengths.now c.requires 0 (omega (arith, two)))

first-verdict : (r : After-server_into-first) {v : Verdict} → r.server_into-first.result ≡ v
    → server_verdict r.args.choices r.args.pages.now r.args.lengths.now 0 ≡ v
first-verdict r e =
    part_verdict r.args.choices r.args.pages.now r.args.lengths.now 0 (first_set r.args.pages.now r.args.lengths.now) r.server_into-first.ensures e

pub returns-in-Err : goal.returns-in-Err
returns-in-Err c =
    pool_in (pooled_first c.args.choices c.args.pages.now c.args.lengths.now c.requires (first-verdict (goal.at.returns-in-Err c).After-server_into-first c.in-Err.is)) c.refuse.ensures

pub join_rest-joined-requires : goal.join_rest-joined-requires
join_rest-joined-requires c = (
  c.requires,
  first-verdict (goal.at.join_rest-joined-requires c).After-server_into-first c.in_default.is,
  part_rows c.args.choices c.args.pages.now c.args.lengths.now 0 (first_set c.args.pages.now c.args.lengths.now) c.server_into-first.ensures
      c.in_default.is,
)

pub returns-in-Err-verdict : goal.returns-in-Err-verdict
returns-in-Err-verdict c =
    pool_in
    (pooled_server c.args.choices c.args.pages.now c.args.lengths.now c.requires c.join_rest-joined.ensures c.in-Err-verdict.is)
    c.refuse-in-Err-verdict.ensures

pub returns-then-all_alike : goal.returns-then-all_alike
returns-then-all_alike c =
    pooled_accepted c.args.choices c.args.pages.now c.args.lengths.now c.requires c.join_rest-joined.ensures c.in_default-verdict.is
    (part_stands c.args.choices c.args.pages.now c.args.lengths.now 0 (first_set c.args.pages.now c.args.lengths.now) c.server_into-first.ensures
    c.in_default.is)
    c.finish_rows-built.ensures c.all_alike.ensures c.if-all_alike.true

pub returns : goal.returns
returns c =
    pool_in
    (pooled_differs c.args.choices c.args.pages.now c.args.lengths.now c.requires c.join_rest-joined.ensures c.in_default-verdict.is
    (part_stands c.args.choices c.args.pages.now c.args.lengths.now 0 (first_set c.args.pages.now c.args.lengths.now) c.server_into-first.ensures
    c.in_default.is)
    c.finish_rows-built.ensures c.all_alike.ensures c.if-all_alike.false)
    c.refuse-2.ensures
