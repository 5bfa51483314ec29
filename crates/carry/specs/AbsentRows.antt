-- "absent rows reading as zeros" (document 02, P8), with figures: a table whose registers are all ones at every place, and one row, D.0 with EAX 7.
-- What stands at an absent row lets no state in, and counts for no size.
use Rattle.std.specs.Prelude.{◌≡◌, refl, false, List, [], ◌∷◌, eqb, replicate, Err, Ok}
use Rattle.bits.specs.Choice.{pick}
use Rattle.bits.specs.Bits.{bit, has}
use Rattle.bits.specs.Lists.{tabulate}
use Rattle.x86defs.specs.declared.CpuidResult.{CpuidResult}
use Rattle.x86defs.specs.Functions.{cpuid_result}
use Rattle.masking.specs.Kept.{places}
use Rattle.masking.specs.Place
use Rattle.table.specs.declared.CpuidResults.{CpuidResults}
use Rattle.table.specs.declared.Refusal.TheVariants.{StateBeyondTable}
use Rattle.table.specs.Edition.{known_edition}
use Rattle.checks.specs.ExtendedState.{xfem, xss}
use Rattle.guest_state.specs.State.{compacts, compact_register, allowed, allowed_verdict, compact_verdict, state_verdict}
use Rattle.carry.specs.Carry.{carry_verdict, carry}
use Rattle.table.specs.Verdict.{Verdict}

abbrev ones : CpuidResult
ones = cpuid_result 0xFFFFFFFF 0xFFFFFFFF 0xFFFFFFFF 0xFFFFFFFF

-- ones everywhere, without a row
abbrev pub ones_without_rows : CpuidResults
ones_without_rows = record { present = replicate places false; results = replicate places ones; row_count = 0; max_extended_state = 0 }

-- D.0 alone is there
abbrev pub only_d0 : CpuidResults
only_d0 = record {
  present = tabulate places (λ i. eqb i (Place.extended_state 0));
  results = tabulate places (λ i. pick (eqb i (Place.extended_state 0)) (cpuid_result 0x7 0 0 0) ones);
  row_count = 1;
  max_extended_state = 0x7;
}

abbrev pub verdicts : List Verdict
verdicts =
    (carry ones_without_rows 1 2 1 0).verdict ∷ (carry only_d0 1 2 7 0x800).verdict ∷ (carry only_d0 1 2 7 0).verdict ∷ []

-- 13 without D.0, whatever XCR0; 13 for a bit of XSS without D.1; given where D.1 is absent, with no compacted size
pub absent_as_zeros : verdicts ≡ Err StateBeyondTable ∷ Err StateBeyondTable ∷ (Ok tt) ∷ []
unfolding carry carry_verdict known_edition state_verdict allowed_verdict compact_verdict allowed compact_register compacts xfem xss tabulate has bit
absent_as_zeros = refl
