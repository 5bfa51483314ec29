-- Document 02, P3: what a processor's guest reads at one question, as a lookup in "the guest's whole table", and that table in lent memory.
use Rattle.std.specs.Prelude.{◌≡◌, Bool, List, ℕ, Err, Ok, Option, Result}
use Rattle.bits.specs.Lists.{tabulate}
use Rattle.x86defs.specs.declared.CpuidFunction.{CpuidFunction}
use Rattle.x86defs.specs.declared.CpuidResult.{CpuidResult}
use Rattle.masking.specs.Kept.{places}
use Rattle.table.specs.declared.CpuidResults.{CpuidResults}
use Rattle.table.specs.Table.{rows_of_table}
use Rattle.memory.specs.Held.{held_in}
use Rattle.lookup.specs.Lookup.{found}
use Rattle.guest_state.specs.State.{save_register}
use Rattle.guest.specs.declared.Processor.{Processor}
use Rattle.guest.specs.declared.GuestAnswer.{GuestAnswer}
use Rattle.guest.specs.Guest.{seen_at}
use Rattle.lookup.specs.declared.FoundRow.{FoundRow}
use Rattle.table.specs.Verdict.{Verdict}
use Rattle.table.specs.declared.Refusal.{Refusal}

-- ---- the guest's table where D.1.EBX is a number that the caller has: with the table's own compacted size it is `guest_table`, by computation

abbrev pub seen_with : CpuidResults → Processor → ℕ → ℕ → CpuidResult
seen_with t v compact i = seen_at v (save_register (rows_of_table t) v.xcr0) compact i (rows_of_table t i)

abbrev pub table_with : CpuidResults → Processor → ℕ → CpuidResults
table_with t v compact = record {
  present = t.present;
  results = tabulate places (seen_with t v compact);
  row_count = t.row_count;
  max_extended_state = t.max_extended_state;
}

-- ---- one question

-- a refusal, or what a lookup found
abbrev pub looked_by : Verdict → Option FoundRow → Result (Option FoundRow) Refusal
looked_by (Ok _) f = Ok f
looked_by (Err r) f = Err r

-- what is found in a guest's answer, with the origin of the row that the guest's is made of
abbrev pub guest_found_in : GuestAnswer → List ℕ → CpuidFunction → Option ℕ → Bool → Result (Option FoundRow) Refusal
guest_found_in g origins l sub enforce = looked_by g.verdict (found g.table origins l sub enforce)

-- ---- the whole table

-- d and the memory w, o are the guest's answer g; where it is given, each row keeps its origin
pub record SeenIn (g : GuestAnswer) (before : List ℕ) (d : Verdict) (w o : List ℕ) : Type 0 where
  pub verdict : d ≡ g.verdict
  pub table : held_in w o ≡ g.table
  pub origins : d ≡ Ok tt → o ≡ before
