-- Document 02, P7: "Edition 2 also clears 1.ECX bit 29 and 80000001h.ECX bits 11 (XOP) and 16 (FMA4) when XFEM lacks bit 2." So edition 2 refuses
-- what edition 1 refuses, and its table is edition 1's without these three bits.
use Rattle.std.specs.Prelude.{◌≡◌, Bool, List, ℕ, ◌<◌, eqb, Ok}
use Rattle.bits.specs.Choice.{pick}
use Rattle.bits.specs.Bits.{has, clear_unless}
use Rattle.x86defs.specs.Functions.{cpuid_result}
use Rattle.masking.specs.Kept.{places}
use Rattle.masking.specs.Place
use Rattle.table.specs.declared.Choices.{Choices}
use Rattle.table.specs.declared.CpuidResults.{CpuidResults}
use Rattle.table.specs.Edition.{f16c, xop_and_fma4}
use Rattle.table.specs.Rows.{Row}
use Rattle.table.specs.Table.{row_in}
use Rattle.build.specs.Build.{rows_for, answer}
use Rattle.rise.specs.Rise.{with_edition}

-- a row with bits of ECX cleared, unless they are kept
abbrev pub clear_ecx : Bool → ℕ → Row → Row
clear_ecx keep m r = record {
  present = r.present;
  result = cpuid_result r.result.eax r.result.ebx (clear_unless keep m r.result.ecx) r.result.edx;
}

-- the row of place i of edition 1's table as edition 2 has it; `keep` says whether XFEM has bit 2
abbrev pub second_row : Bool → ℕ → Row → Row
second_row keep i r =
    pick (eqb i Place.version_and_features) (clear_ecx keep f16c r) (pick (eqb i Place.extended_version_and_features) (clear_ecx keep xop_and_fma4 r) r)

-- whether a table's XFEM, D.0.EAX, has bit 2
abbrev pub has_ymm_state : CpuidResults → Bool
has_ymm_state t = has 2 (row_in t (Place.extended_state 0)).result.eax

-- b beside a, the tables of editions 2 and 1
pub record SecondTable (a b : CpuidResults) : Type 0 where
  pub rows : (i : ℕ) → i < places → row_in b i ≡ second_row (has_ymm_state a) i (row_in a i)
  pub count : b.row_count ≡ a.row_count
  pub mask : b.max_extended_state ≡ a.max_extended_state

-- the answers of both editions to any page bytes
pub record SecondEdition (chosen : Choices) (s : List ℕ) : Type 0 where
  pub verdict : (answer (with_edition chosen 2) s).verdict ≡ (answer (with_edition chosen 1) s).verdict
  pub table : (answer (with_edition chosen 1) s).verdict ≡ Ok tt
      → SecondTable (answer (with_edition chosen 1) s).table (answer (with_edition chosen 2) s).table
  -- document 02, P11: after P8 the origin is "carried over unchanged"
  pub origins : (answer (with_edition chosen 2) s).origins ≡ (answer (with_edition chosen 1) s).origins

-- Edition 1 is document 01's rule: it clears nothing in 80000001h.ECX, whose masked first entry stands.
abbrev pub FirstEdition : Type 0
FirstEdition = (chosen : Choices) (s : List ℕ) → (answer (with_edition chosen 1) s).verdict ≡ Ok tt
    → (row_in (answer (with_edition chosen 1) s).table Place.extended_version_and_features).result.ecx
    ≡ (rows_for chosen s Place.extended_version_and_features).result.ecx
