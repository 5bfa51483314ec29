-- `image_read::read_run` meets its contract. The invariant: the rows of the places before the run's `k`-th are read, and `at` is the index after them.
use Rattle.std.proofs.Common.{◌≡◌, ℕ, ◌+◌, ◌-◌, ◌<◌, arith}
use Rattle.masking.specs.Kept.{places}
use Rattle.masking.specs.RunLaws.{run_end, run_leaf_lem}
use Rattle.image_read.specs.BeginsLaws.{RowThere, place_begins, row_there}
use Rattle.image_read.specs.ReadingLaws.{reading_none, reading_row}
use Rattle.image_read.proofs.read_run.Goals as goal
use Rattle.image_read.proofs.read_run.Goals.{After-row_length-length, then-row_begins, else-row_begins}

pub row_begins-requires : goal.row_begins-requires
row_begins-requires c =
    (c.loop-k.invariant.inside, omega (arith, run_end _ c.requires.0, run_leaf_lem _ c.requires.0))

pub overflow_add-place : goal.overflow_add-place
overflow_add-place c = record { fits = omega (arith, run_end _ c.requires.0) }

-- the row that begins, by its place
there : (c : After-row_length-length) → RowThere c.args.bytes.now c.loop-k.at (c.args.run.first + c.loop-k.k) c.row_length-length.result
there c =
    let back : c.args.run.first + c.loop-k.k - c.args.run.first ≡ c.loop-k.k = omega arith in
    row_there c.args.run c.requires.0 _ _ _ (omega arith) (omega arith) (rw back c.row_begins.ensures) c.if-row_begins.true c.row_length-length.ensures.value

pub registers_at-requires : goal.registers_at-requires
registers_at-requires c = omega (arith, (there (goal.at.registers_at-requires c).After-row_length-length).long, c.loop-k.invariant.inside)

pub put_row-requires : goal.put_row-requires
put_row-requires c = omega (arith, run_end _ c.requires.0)

pub offset_bounds-origins-place : goal.offset_bounds-origins-place
offset_bounds-origins-place c = record { fits = omega (arith, run_end _ c.requires.0) }

pub bounds-origins-place : goal.bounds-origins-place
bounds-origins-place c = omega (arith, run_end _ c.requires.0)

pub loop-k-preserved : goal.loop-k-preserved
loop-k-preserved c =
    let run = c.args.run in
    let i : ℕ = run.first + c.loop-k.k in
    let h : i < places = omega (arith, run_end _ c.requires.0) in
    let back : run.first + c.loop-k.k - run.first ≡ c.loop-k.k = omega arith in
    let next : run.first + (c.loop-k.k + 1) ≡ i + 1 = omega arith in
    rw next
    (elim c.if-row_begins.branch [
      | then-row_begins w ↦
          let row =
          row_there run c.requires.0 c.args.bytes.now c.loop-k.at i (omega arith) (omega arith) (rw back c.row_begins.ensures) w.if-row_begins.true
          w.row_length-length.ensures.value in
          rw (w.registers-is, w.origins-is, w.at-is, w.put_row.ensures) (reading_row _ h c.loop-k.invariant row w.registers_at.ensures)
      | else-row_begins w ↦
          rw (w.registers-is, w.origins-is, w.at-is)
          (reading_none _ h c.loop-k.invariant
          (place_begins run c.requires.0 c.args.bytes.now c.loop-k.at i (omega arith) (omega arith) (rw back c.row_begins.ensures)
          w.if-row_begins.false))
    ])
