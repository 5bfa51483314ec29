-- `join_row` meets its contract: the join by masks is the one by kinds, since registers have 32 bits.
use native.Mathlib.Omega.{arith}
use Rattle.table.specs.Fits.{Fits}
use Rattle.pool.specs.PoolMaskLaws.{joined_by_kind}
use Rattle.pool.proofs.join.join_row.Goals as goal
use Rattle.pool.proofs.join.join_row.Goals.{Start}

first_fits : (c : Start) → Fits c.args.a
first_fits c = record { eax = omega arith; ebx = omega arith; ecx = omega arith; edx = omega arith }

second_fits : (c : Start) → Fits c.args.b
second_fits c = record { eax = omega arith; ebx = omega arith; ecx = omega arith; edx = omega arith }

pub returns : goal.returns
returns c =
    joined_by_kind c.args.masks c.args.a c.args.b (first_fits (goal.at.returns c).Start) (second_fits (goal.at.returns c).Start)
