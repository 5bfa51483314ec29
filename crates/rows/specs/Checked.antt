-- The verdict on rows, with what finishing needs where it is accepted.
use Rattle.std.specs.Prelude.{false, List, ℕ, get_or, Err, Ok, Result}
use Rattle.x86defs.specs.Functions.{cpuid_result}
use Rattle.topology.specs.Topology.{topology_of, processors}
use Rattle.table.specs.Rows.{Rows}
use Rattle.memory.specs.Memory.{is_there, row_of}
use Rattle.checks.specs.ExtendedState.{xfem, combined_mask, save_area}
use Rattle.checks.specs.TopologyInputs.{inputs_of}
use Rattle.checks.specs.Checks.{rows_verdict}
use Rattle.rows.specs.declared.checked.Checked.{Checked}
use Rattle.table.specs.Verdict.{Verdict}
use Rattle.table.specs.declared.Refusal.{Refusal}

-- rows of which only the presence matters, and rows of which only the registers do
abbrev pub present_in : List ℕ → Rows
present_in o i = record { present = is_there (get_or o i 0); result = cpuid_result 0 0 0 0 }

abbrev pub registers_in : List ℕ → Rows
registers_in w i = record { present = false; result = row_of w i }

-- what goes with a verdict on rows
abbrev pub checked_by : Verdict → Rows → Result Checked Refusal
checked_by (Ok _) m = Ok (record { mask = combined_mask m; size = save_area m (xfem m); processors = processors (topology_of (inputs_of m)) })
checked_by (Err r) m = Err r

unfoldable pub checked_rows : Rows → Result Checked Refusal
checked_rows m = checked_by (rows_verdict m) m

-- the verdict alone
abbrev pub verdict_of : Result Checked Refusal → Verdict
verdict_of (Err r) = Err r
verdict_of (Ok _) = Ok tt
