-- Places whose registers decide nothing, whatever row stands there: where a required leaf is missing, all; where INVLPGB is clear, all but
-- 80000008h's; else B.0 and B.1, which are made here, D subleaves that the combined mask lacks and, in a refused set, each place that no check reads.
use Rattle.std.specs.Prelude.{Bool, true, false, not, ◌&&◌, ◌||◌, ℕ, ◌-◌, eqb, ltb, leb, Err, Ok}
use Rattle.bits.specs.Choice.{pick}
use Rattle.bits.specs.Bits.{has}
use Rattle.masking.specs.Place
use Rattle.table.specs.Rows.{Rows}
use Rattle.checks.specs.ExtendedState.{combined_mask}
use Rattle.checks.specs.Checks.{required_verdict, invlpgb_verdict, rows_verdict}
use Rattle.rows.specs.Checked.{checked_rows, verdict_of}
use Rattle.nearest.specs.declared.search.irrelevant.Unflipped.{Unflipped}
use Rattle.table.specs.Verdict.{Verdict}

abbrev pub refuses : Verdict → Bool
refuses (Ok _) = false
refuses (Err r) = true

-- D.2 to D.63
abbrev pub is_component : ℕ → Bool
is_component i = leb (Place.extended_state 2) i && ltb i (Place.extended_state 64)

-- B.0 and B.1
abbrev pub is_level : ℕ → Bool
is_level i = eqb i Place.thread_level || eqb i Place.core_level

-- what checks read besides: 1 and 8000001Eh for the topology, 80000008h for it and for INVLPGB, D.0 and D.1 for the masks
abbrev pub is_read : ℕ → Bool
is_read i =
    (eqb i Place.version_and_features || eqb i Place.processor_topology_definition)
    || (eqb i Place.extended_address_space_sizes || (eqb i (Place.extended_state 0) || eqb i (Place.extended_state 1)))

-- once the required leaves are there and INVLPGB is set; x is the combined mask
unfoldable pub irrelevant_at : Bool → ℕ → ℕ → Bool
irrelevant_at refused x i =
    pick (is_component i) (not (has (i - Place.extended_state 0) x)) (pick (is_level i) true (pick (is_read i) false refused))

unfoldable pub irrelevant : Rows → ℕ → Bool
irrelevant m i =
    pick (refuses (required_verdict m)) true
    (pick (refuses (invlpgb_verdict m)) (not (eqb i Place.extended_address_space_sizes)) (irrelevant_at (refuses (rows_verdict m)) (combined_mask m) i))

-- the same from what the checks find in the rows
unfoldable pub unflipped_in : Rows → Unflipped
unflipped_in m = record {
  missing = refuses (required_verdict m);
  clear = refuses (invlpgb_verdict m);
  mask = combined_mask m;
  checked = checked_rows m;
}

unfoldable pub irrelevant_by : Unflipped → ℕ → Bool
irrelevant_by f i =
    pick f.missing true
    (pick f.clear (not (eqb i Place.extended_address_space_sizes)) (irrelevant_at (refuses (verdict_of f.checked)) f.mask i))
