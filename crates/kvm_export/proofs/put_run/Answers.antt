-- `kvm_export::put_run` meets its contract. The invariant: writing went on from the run's first place to its k-th.
use mathlib.Core.Path.{◌≡◌}
use mathlib.Core.List.{List, ◌++◌}
use Prim.Native.Nat.{ℕ, ◌+◌}
use native.Mathlib.Omega.{arith}
use Rattle.masking.specs.RunLaws.{run_end, run_leaf_lem}
use Rattle.memory.specs.Held.{held_in}
use Rattle.buffer.specs.OnwardLaws.{onward_join, piece_room, onward_piece}
use Rattle.kvm_export.specs.ExportPieces.{rows_left, run_row}
use Rattle.kvm_export.proofs.ExportListLaws.{run_more_held}
use Rattle.kvm_export.proofs.put_run.Goals as goal
use Rattle.kvm_export.proofs.put_run.Goals.{After-is_there}

pub overflow_add-place : goal.overflow_add-place
overflow_add-place c = record { fits = omega (arith, run_end _ c.requires.0) }

pub offset_bounds-origins-place : goal.offset_bounds-origins-place
offset_bounds-origins-place c = record { fits = omega (arith, run_end _ c.requires.0) }

pub bounds-origins-place : goal.bounds-origins-place
bounds-origins-place c = omega (arith, run_end _ c.requires.0)

pub row_at-r-requires : goal.row_at-r-requires
row_at-r-requires c = omega (arith, run_end _ c.requires.0)

abbrev left : After-is_there → ℕ → List ℕ
left c = rows_left (held_in c.args.registers.now c.args.origins.now)

abbrev row : After-is_there → List ℕ
row c = run_row c.args.run c.loop-k.k c.is_there.result c.row_at-r.result

-- what is written is the first of the rows that are left
written : (c : After-is_there)
    → left c (c.args.run.first + c.loop-k.k) ≡ row c ++ left c (c.args.run.first + c.loop-k.k + 1)
written c =
    run_more_held c.args.registers.now c.args.origins.now c.args.run c.requires.0 c.loop-k.k (omega arith)
    c.is_there.ensures c.row_at-r.ensures

pub put_place-at-requires : goal.put_place-at-requires
put_place-at-requires c = (
  omega (arith, run_leaf_lem _ c.requires.0, run_end _ c.requires.0),
  omega (
    arith,
    piece_room (left (goal.at.put_place-at-requires c).After-is_there) (row (goal.at.put_place-at-requires c).After-is_there) (c.args.run.first + c.loop-k.k) (written (goal.at.put_place-at-requires c).After-is_there),
    c.loop-k.invariant.room,
    c.loop-k.invariant.kept,
    c.requires.1,
  ),
)

pub loop-k-preserved : goal.loop-k-preserved
loop-k-preserved c =
    let i : ℕ = c.args.run.first + c.loop-k.k in
    let next : c.args.run.first + (c.loop-k.k + 1) ≡ i + 1 = omega arith in
    let further = onward_piece (left (goal.at.loop-k-preserved c).After-is_there) (row (goal.at.loop-k-preserved c).After-is_there) i (written (goal.at.loop-k-preserved c).After-is_there) c.loop-k.out c.put_place-at.new.out c.loop-k.at c.put_place-at.ensures.1 in
    rw next (onward_join _ c.loop-k.invariant (rw c.put_place-at.ensures.0 further))
