-- Rows while they are finished: those that are dropped, and what the checks have shown.
use Rattle.std.specs.Prelude.{◌≡◌, ◌&&◌, ℕ, ◌-◌, ltb, leb, Ok}
use Rattle.bits.specs.Choice.{pick}
use Rattle.bits.specs.Bits.{has}
use Rattle.topology.specs.Topology.{topology_of, processors as count_of}
use Rattle.masking.specs.Place
use Rattle.table.specs.Rows.{Row, Rows, row, vacant}
use Rattle.checks.specs.ExtendedState.{xfem, save_area}
use Rattle.checks.specs.TopologyInputs.{inputs_of}
use Rattle.checks.specs.Checks.{required_verdict}

-- the row at place i: a D subleaf from 2 up stays where the mask x has its bit
unfoldable pub dropped_row : ℕ → ℕ → Row → Row
dropped_row x i r =
    pick (leb (Place.extended_state 2) i && ltb i (Place.extended_state 64))
    (pick (has (i - Place.extended_state 0) x && r.present) (row r.result) vacant)
    r

abbrev pub dropped : Rows → ℕ → Rows
dropped m x i = dropped_row x i (m i)

-- what the checks have shown once rows are finished
pub record Ready (m : Rows) (size processors : ℕ) : Type 0 where
  pub required : required_verdict m ≡ Ok tt
  pub area : size ≡ save_area m (xfem m)
  pub topology : processors ≡ count_of (topology_of (inputs_of m))
