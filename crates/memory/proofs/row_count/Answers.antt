-- `memory::row_count` meets its contract: the count is that of the places passed.
use Rattle.std.proofs.Common.{◌≡◌, arith, rules}
use Rattle.memory.specs.Held.{count_starts, byte_le, count_next, count_ends}
use Rattle.memory.proofs.row_count.Goals as goal

pub loop-origin-init : goal.loop-origin-init
loop-origin-init c = (search rules, count_starts c.args.origins.now)

pub loop-origin-preserved : goal.loop-origin-preserved
loop-origin-preserved c = (
  omega (arith, byte_le c.is_there.result),
  count_next c.args.origins.now c.loop-origin.origin-index c.loop-origin.invariant.1 c.is_there.ensures,
)

pub returns : goal.returns
returns c = λ w.
    let all : c.loop-origin.origin-index ≡ 88 = omega arith in
    count_ends w c.args.origins.now (rw all at c.loop-origin.invariant.1)
