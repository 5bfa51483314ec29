-- Document 02, P3, "What one processor's guest sees": the guest's whole table, from the paravisor's.
use Rattle.std.specs.Prelude.{Bool, ◌&&◌, ℕ, ◌+◌, ◌*◌, ◌%◌, ◌^◌, eqb, Err, Ok}
use Rattle.std.specs.Int.Bits.{bit_or}
use Rattle.bits.specs.Choice.{pick}
use Rattle.bits.specs.Bits.{has, clear}
use Rattle.bits.specs.Lists.{tabulate}
use Rattle.x86defs.specs.declared.CpuidResult.{CpuidResult}
use Rattle.x86defs.specs.Functions.{cpuid_result}
use Rattle.x86defs.specs.VersionAndFeaturesEcx as Version
use Rattle.x86defs.specs.VersionAndFeaturesEcx.VersionAndFeaturesEcx.{xsave, os_xsave}
use Rattle.masking.specs.Kept.{places}
use Rattle.masking.specs.Place
use Rattle.table.specs.declared.CpuidResults.{CpuidResults}
use Rattle.table.specs.declared.Refusal.{Refusal}
use Rattle.table.specs.Rows.{Row}
use Rattle.table.specs.Table.{empty_table, rows_of_table}
use Rattle.guest.specs.declared.Processor.{Processor}
use Rattle.guest.specs.declared.GuestAnswer.{GuestAnswer}
use Rattle.guest_state.specs.State.{save_register, compact_register, state_verdict}
use Rattle.table.specs.Verdict.{Verdict}

-- ---- the registers that differ

-- "Leaf 1 EBX bits 24-31 are the number's low eight bits. Leaf 1 ECX bit 27 is set if OSXSAVE is on and bit 26 is set, else clear."
unfoldable pub number_seen : ℕ → ℕ → ℕ
number_seen n x = x % 2 ^ 24 + n % 2 ^ 8 * 2 ^ 24

unfoldable pub osxsave_seen : Bool → ℕ → ℕ
osxsave_seen on x =
    pick (on && has (Version.position xsave) x) (bit_or x (2 ^ Version.position os_xsave)) (clear (2 ^ Version.position os_xsave) x)

abbrev pub version_seen : Processor → CpuidResult → CpuidResult
version_seen v r = cpuid_result r.eax (number_seen v.x2apic r.ebx) (osxsave_seen v.osxsave r.ecx) r.edx

-- "B.0 and B.1 EDX are the number."
abbrev pub level_seen : Processor → CpuidResult → CpuidResult
level_seen v r = cpuid_result r.eax r.ebx r.ecx v.x2apic

-- D.0.EBX and D.1.EBX are sizes
abbrev pub size_seen : ℕ → CpuidResult → CpuidResult
size_seen size r = cpuid_result r.eax size r.ecx r.edx

-- the registers of the row at a place: five rows differ, where they are there. area and compact are D.0.EBX and D.1.EBX.
abbrev pub seen_at : Processor → ℕ → ℕ → ℕ → Row → CpuidResult
seen_at v area compact i r =
    pick (eqb i Place.version_and_features && r.present) (version_seen v r.result)
    (pick (eqb i Place.thread_level && r.present) (level_seen v r.result)
    (pick (eqb i Place.core_level && r.present) (level_seen v r.result)
    (pick (eqb i (Place.extended_state 0) && r.present) (size_seen area r.result)
    (pick (eqb i (Place.extended_state 1) && r.present) (size_seen compact r.result) r.result))))

-- ---- the answer

-- the two sizes are those of the table's own rows
abbrev pub seen_in : CpuidResults → Processor → ℕ → CpuidResult
seen_in t v i = seen_at v (save_register (rows_of_table t) v.xcr0) (compact_register (rows_of_table t) v.xcr0 v.xss) i (rows_of_table t i)

-- "the guest's whole table, looked up as before": the same rows are there
abbrev pub guest_table : CpuidResults → Processor → CpuidResults
guest_table t v = record {
  present = t.present;
  results = tabulate places (seen_in t v);
  row_count = t.row_count;
  max_extended_state = t.max_extended_state;
}

abbrev pub refused_answer : Refusal → GuestAnswer
refused_answer r = record { verdict = Err r; table = empty_table }

-- the table that goes with a verdict
abbrev pub table_given : Verdict → CpuidResults → Processor → CpuidResults
table_given (Ok _) t v = guest_table t v
table_given (Err r) t v = empty_table

abbrev pub answer_for : Verdict → CpuidResults → Processor → GuestAnswer
answer_for w t v = record { verdict = w; table = table_given w t v }

unfoldable pub guest_answer : CpuidResults → Processor → GuestAnswer
guest_answer t v = answer_for (state_verdict (rows_of_table t) v.xcr0 v.xss) t v
