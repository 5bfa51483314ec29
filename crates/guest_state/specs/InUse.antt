-- Extended state in use, of a table in lent memory: document 02, P3 on the memory's rows as they stand, P8 with "absent rows reading as zeros".
use Rattle.std.specs.Prelude.{Bool, List, ℕ, get_or, Err, Ok, Result}
use Rattle.bits.specs.Choice.{pick}
use Rattle.x86defs.specs.Functions.{cpuid_result}
use Rattle.table.specs.Rows.{Rows}
use Rattle.memory.specs.Memory.{is_there, row_of}
use Rattle.guest_state.specs.State.{compact_register, state_verdict}
use Rattle.table.specs.Verdict.{Verdict}
use Rattle.table.specs.declared.Refusal.{Refusal}

-- the rows of memory; where only the rows that are there count, an absent one reads as zeros
abbrev pub read_rows : Bool → List ℕ → List ℕ → Rows
read_rows own w o i = record {
  present = is_there (get_or o i 0);
  result = pick own (pick (is_there (get_or o i 0)) (row_of w i) (cpuid_result 0 0 0 0)) (row_of w i);
}

-- a verdict, with the compacted size where it is accepted
abbrev pub in_use_by : Verdict → ℕ → Result ℕ Refusal
in_use_by (Ok _) size = Ok size
in_use_by (Err r) size = Err r

unfoldable pub in_use : Rows → ℕ → ℕ → Result ℕ Refusal
in_use m xcr0 xss = in_use_by (state_verdict m xcr0 xss) (compact_register m xcr0 xss)
