-- Document 02, P8, "Moving a live guest to edition 2": "Carrying any table within one edition, where it isn't refused, changes nothing. From 1 to
-- 2 a table built otherwise gets the same three bits cleared where its own D.0.EAX lacks bit 2, and nothing else changed, absent rows reading
-- as zeros". The three are P7's: "1.ECX bit 29 and 80000001h.ECX bits 11 (XOP) and 16 (FMA4)". From any edition to a later one they are the bits that
-- the later one clears and the other leaves.
use Rattle.std.specs.Prelude.{Bool, ◌&&◌, ◌||◌, ℕ, eqb, leb, Err, Ok}
use Rattle.bits.specs.Choice.{pick}
use Rattle.bits.specs.Bits.{has, clear_unless}
use Rattle.bits.specs.Lists.{tabulate}
use Rattle.x86defs.specs.declared.CpuidResult.{CpuidResult}
use Rattle.x86defs.specs.Functions.{cpuid_result}
use Rattle.masking.specs.Kept.{places}
use Rattle.masking.specs.Place
use Rattle.table.specs.declared.CpuidResults.{CpuidResults}
use Rattle.table.specs.declared.edition.EditionBits.{EditionBits}
use Rattle.table.specs.Edition.{known_edition, bits_between}
use Rattle.table.specs.Rows.{Row, Rows}
use Rattle.table.specs.Table.{empty_table, row_in}
use Rattle.checks.specs.ExtendedState.{xfem}
use Rattle.guest_state.specs.State.{state_verdict}
use Rattle.table.specs.declared.Refusal.{Refusal}
use Rattle.table.specs.declared.Refusal.TheVariants.{UnknownEdition, EditionBack}
use Rattle.carry.specs.declared.Carried.{Carried}
use Rattle.table.specs.Verdict.{Verdict}

-- ---- the table

-- "absent rows reading as zeros"
abbrev pub own_rows : CpuidResults → Rows
own_rows t i = record { present = (row_in t i).present; result = pick (row_in t i).present (row_in t i).result (cpuid_result 0 0 0 0) }

-- ECX without the bits of m, unless they are kept
abbrev pub without_bits : Bool → ℕ → CpuidResult → CpuidResult
without_bits keep m r = cpuid_result r.eax r.ebx (clear_unless keep m r.ecx) r.edx

-- the registers at a place: two rows lose the bits, where they are there
abbrev pub carried_at : EditionBits → Bool → ℕ → Row → CpuidResult
carried_at b keep i r =
    pick (eqb i Place.version_and_features && r.present) (without_bits keep b.version_ecx r.result)
    (pick (eqb i Place.extended_version_and_features && r.present) (without_bits keep b.extended_version_ecx r.result) r.result)

abbrev pub carried_table : EditionBits → Bool → CpuidResults → CpuidResults
carried_table b keep t = record {
  present = t.present;
  results = tabulate places (λ i. carried_at b keep i (row_in t i));
  row_count = t.row_count;
  max_extended_state = t.max_extended_state;
}

-- the bits are kept within one edition, and where the table's own D.0.EAX has bit 2
unfoldable pub keeps : CpuidResults → ℕ → ℕ → Bool
keeps t from to = eqb from to || has 2 (xfem (own_rows t))

-- ---- the answer

-- "Answers: 16 from edition 2 back to 1, after 15 for either edition and before 13 and 14, which P3's rules give on the handed table's own rows"
unfoldable pub carry_verdict : CpuidResults → ℕ → ℕ → ℕ → ℕ → Verdict
carry_verdict t from to xcr0 xss =
    pick (known_edition from && known_edition to)
    (pick (leb from to) (state_verdict (own_rows t) xcr0 xss) (Err EditionBack))
    (Err UnknownEdition)

-- the table that goes with a verdict
abbrev pub carried_given : Verdict → CpuidResults → CpuidResults
carried_given (Ok _) t = t
carried_given (Err r) t = empty_table

abbrev pub carried_for : Verdict → CpuidResults → Carried
carried_for v t = record { verdict = v; table = carried_given v t }

abbrev pub refused_carry : Refusal → Carried
refused_carry r = record { verdict = Err r; table = empty_table }

unfoldable pub carry : CpuidResults → ℕ → ℕ → ℕ → ℕ → Carried
carry t from to xcr0 xss = carried_for (carry_verdict t from to xcr0 xss) (carried_table (bits_between from to) (keeps t from to) t)
