-- A relation of two registers by their kind, over all registers of two tables, and the masks of the two: as a computed test, from one of a register.
use Rattle.std.specs.Prelude.{◌≡◌, Bool, true, ◌&&◌, ℕ, ◌<◌, eqb}
use Rattle.std.specs.Int.Bits.{bit_and}
use Rattle.std.proofs.Common.{eqb-true}
use Rattle.bits.specs.ChoiceLaws.{and_left, and_right}
use Rattle.bits.specs.Search.{every}
use Rattle.bits.specs.SearchLaws.{every_at}
use Rattle.bits.specs.Bits.{Within}
use Rattle.bits.specs.BitsLaws.{within_of_and}
use Rattle.x86defs.specs.declared.CpuidResult.{CpuidResult}
use Rattle.masking.specs.Kept.{places}
use Rattle.table.specs.declared.CpuidResults.{CpuidResults}
use Rattle.table.specs.Table.{row_in}
use Rattle.finish.specs.Kinds.{Kind, Kinds, Registers, kinds_at}

abbrev mask_test : CpuidResults → CpuidResults → Bool
mask_test t u = eqb (bit_and t.max_extended_state u.max_extended_state) t.max_extended_state

module _ (test : Kind → ℕ → ℕ → Bool) where
  -- the four registers of a row, in pairs
  abbrev row_test : Kinds → CpuidResult → CpuidResult → Bool
  row_test k a b =
      (test k.eax a.eax b.eax && test k.ebx a.ebx b.ebx)
      && (test k.ecx a.ecx b.ecx && test k.edx a.edx b.edx)

  abbrev place_test : CpuidResults → CpuidResults → ℕ → Bool
  place_test t u i = row_test (kinds_at i) (row_in t i).result (row_in u i).result

  abbrev pub table_test : CpuidResults → CpuidResults → Bool
  table_test t u = mask_test t u && every (place_test t u) places

  pub tested_mask : (t u : CpuidResults) → table_test t u ≡ true → Within t.max_extended_state u.max_extended_state
  tested_mask t u e = within_of_and (eqb-true _ _ (and_left (mask_test t u) _ e))

  module _ (R : Kind → ℕ → ℕ → Type 0) (means : (k : Kind) (a b : ℕ) → test k a b ≡ true → R k a b) where
    tested_row : (k : Kinds) (a b : CpuidResult) → row_test k a b ≡ true → Registers R k a b
    tested_row k a b e =
        let f = and_left (test k.eax a.eax b.eax && test k.ebx a.ebx b.ebx) _ e in
        let g = and_right (test k.eax a.eax b.eax && test k.ebx a.ebx b.ebx) _ e in
        record {
          eax = means k.eax _ _ (and_left _ _ f);
          ebx = means k.ebx _ _ (and_right (test k.eax a.eax b.eax) _ f);
          ecx = means k.ecx _ _ (and_left _ _ g);
          edx = means k.edx _ _ (and_right (test k.ecx a.ecx b.ecx) _ g);
        }

    pub tested_rows : (t u : CpuidResults) → table_test t u ≡ true → (i : ℕ) → i < places
        → Registers R (kinds_at i) (row_in t i).result (row_in u i).result
    tested_rows t u e i l = tested_row (kinds_at i) _ _ (every_at (place_test t u) places (and_right (mask_test t u) _ e) i l)
