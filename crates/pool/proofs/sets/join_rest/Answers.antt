-- `pool::sets::join_rest` meets its contract: before each turn no server passed is refused, their entries are joined, and the next set
-- begins at `start`.
use borrow.Author.Rules.{rules}
use native.Mathlib.Omega.{arith}
use Rattle.pool.specs.SetsLaws.{start_first, start_next, set_of}
use Rattle.pool.proofs.SetsLaws.{at_least_two, set_ends}
use Rattle.pool.specs.ServersLaws.{part_verdict, part_rows, joining_starts, joining_length, joining_next, joining_refuses, joining_ends}
use Rattle.pool.proofs.sets.join_rest.Goals as goal

pub bounds-lengths-0 : goal.bounds-lengths-0
bounds-lengths-0 c = omega (arith, at_least_two c.args.pages.now c.args.lengths.now c.requires.0)

pub loop-k-init : goal.loop-k-init
loop-k-init c =
    let two = at_least_two c.args.pages.now c.args.lengths.now c.requires.0 in (
      omega (arith, start_next c.args.lengths.now 0, start_first c.args.lengths.now),
      joining_starts c.args.choices c.args.pages.now c.args.lengths.now two c.requires.1 c.requires.2 c.all_places-alike.ensures,
    )

pub overflow_add-end : goal.overflow_add-end
overflow_add-end c =
    omega (arith, c.loop-k.invariant.0, set_ends c.args.pages.now c.args.lengths.now c.requires.0 c.loop-k.k (search rules))

pub slice_bounds-server_into-end : goal.slice_bounds-server_into-end
slice_bounds-server_into-end c =
    omega (arith, c.loop-k.invariant.0, set_ends c.args.pages.now c.args.lengths.now c.requires.0 c.loop-k.k (search rules))

pub returns-in-Err : goal.returns-in-Err
returns-in-Err c =
    joining_refuses c.args.choices c.args.pages.now c.args.lengths.now c.loop-k.k (search rules)
    (part_verdict c.args.choices c.args.pages.now c.args.lengths.now c.loop-k.k
    (set_of c.args.pages.now c.args.lengths.now c.loop-k.k c.loop-k.start c.loop-k.invariant.0) c.server_into-verdict.ensures c.in-Err.is)
    c.loop-k.invariant.1

pub with_server-found-requires : goal.with_server-found-requires
with_server-found-requires c =
    joining_length c.args.choices c.args.pages.now c.args.lengths.now c.loop-k.invariant.1

pub loop-k-preserved : goal.loop-k-preserved
loop-k-preserved c =
    let part = set_of c.args.pages.now c.args.lengths.now c.loop-k.k c.loop-k.start c.loop-k.invariant.0 in (
      omega (arith, c.loop-k.invariant.0, start_next c.args.lengths.now c.loop-k.k),
      joining_next c.args.choices c.args.pages.now c.args.lengths.now c.loop-k.k (search rules) (search rules)
          (part_verdict c.args.choices c.args.pages.now c.args.lengths.now c.loop-k.k part c.server_into-verdict.ensures c.in_default.is)
          (part_rows c.args.choices c.args.pages.now c.args.lengths.now c.loop-k.k part c.server_into-verdict.ensures c.in_default.is)
          c.with_server-found.ensures c.loop-k.invariant.1,
    )

pub returns : goal.returns
returns c =
    joining_ends c.args.choices c.args.pages.now c.args.lengths.now c.loop-k.k (omega (arith, at_least_two c.args.pages.now c.args.lengths.now c.requires.0)) c.loop-k.invariant.1
