-- The state in use by the code's returns, and that it is the verdict on the table that the memory holds.
use Rattle.std.specs.Prelude.{◌≡◌, false, List, ℕ, ◌<◌}
use Rattle.std.proofs.Math.Path.{ap}
use Rattle.std.proofs.Common.{arith}
use Rattle.masking.specs.Place
use Rattle.table.specs.Rows.{Row}
use Rattle.table.specs.Table as Tables
use Rattle.memory.specs.Memory.{rows_in}
use Rattle.memory.specs.Held.{held_in, whole_row_lem}
use Rattle.guest_state.specs.State.{save_register, compact_register, state_verdict}
use Rattle.guest_state.proofs.StateLaws.{save_of_state, compact_of_state, verdict_of_state}
use Rattle.rows.specs.Checked.{registers_in}
use Rattle.guest_state.specs.InUse.{read_rows}

-- ---- the table that the memory holds: verdict and sizes need no length of the memory

module _ (w o : List ℕ) where
  same : (k : ℕ) → k < 64 → (Tables.rows_of_table (held_in w o) (Place.extended_state k)).result ≡ (rows_in w o (Place.extended_state k)).result
  same k h = ap (λ (r : Row). r.result) (whole_row_lem (rows_in w o) (Place.extended_state k) (omega arith))

  pub held_verdict : (x s : ℕ) → state_verdict (Tables.rows_of_table (held_in w o)) x s ≡ state_verdict (read_rows false w o) x s
  held_verdict x s = verdict_of_state (Tables.rows_of_table (held_in w o)) (read_rows false w o) same x s

  pub held_compact : (x s : ℕ) → compact_register (Tables.rows_of_table (held_in w o)) x s ≡ compact_register (read_rows false w o) x s
  held_compact x s = compact_of_state (Tables.rows_of_table (held_in w o)) (read_rows false w o) same x s

  pub held_save : (x : ℕ) → save_register (Tables.rows_of_table (held_in w o)) x ≡ save_register (registers_in w) x
  held_save x = save_of_state (Tables.rows_of_table (held_in w o)) (registers_in w) same x 0
