-- Masked first entries fit 32 bits, whatever the pages hold.
use Rattle.std.specs.Prelude.{◌≡◌, refl, Bool, true, false, List, ℕ, ◌^◌, ◌<◌, eqb, ltb}
use Rattle.std.specs.Int.Bits.{bit_or}
use Rattle.std.proofs.Common.{lit<, ltb-true}
use Rattle.bits.specs.Choice.{pick}
use Rattle.bits.specs.Bits.{mask_of}
use Rattle.bits.specs.WidthLaws.{and_fits, or_fits}
use Rattle.x86defs.specs.declared.CpuidResult.{CpuidResult}
use Rattle.pages.specs.Entries.{counted}
use Rattle.masking.specs.Kept.{places, masks_at}
use Rattle.masking.specs.MasksFit.{MasksFit, masks_fit}
use Rattle.masking.specs.Place
use Rattle.table.specs.Rows.{Row, row, vacant}
use Rattle.table.specs.Fits.{Fits}
use Rattle.collect.specs.FirstEntries.{first_at, legacy_features, masked_at, mask_row, rows_of}

masked_fits : (avic : Bool) (i : ℕ) → i < places → (r : CpuidResult) → Fits (masked_at avic i r)
unfolding legacy_features mask_of
masked_fits avic i h r =
    let m : MasksFit (masks_at avic i) = masks_fit avic i h in
    record {
      eax = legacy (eqb i (Place.extended_state 0)) (and_fits r.eax m.eax);
      ebx = and_fits r.ebx m.ebx;
      ecx = and_fits r.ecx m.ecx;
      edx = and_fits r.edx m.edx;
    }
  where
    legacy : (b : Bool) {x : ℕ} → x < 2 ^ 32 → pick b (bit_or x legacy_features) x < 2 ^ 32
    legacy true l = or_fits l (lit< tt)
    legacy false l = l

vacant_fits : Fits vacant.result
vacant_fits = record { eax = lit< tt; ebx = lit< tt; ecx = lit< tt; edx = lit< tt }

pub rows_fit_lem : (avic : Bool) (s : List ℕ) (i : ℕ) → Fits (rows_of avic s i).result
unfolding rows_of
rows_fit_lem avic s i = go (ltb i places) (first_at i (counted s)) refl
  where
    entry : (b : Bool) (r : Row) → i < places → Fits (pick b (row (masked_at avic i r.result)) vacant).result
    entry true r h = masked_fits avic i h r.result
    entry false r h = vacant_fits

    go : (b : Bool) (r : Row) → ltb i places ≡ b → Fits (pick b (mask_row avic i r) vacant).result
    go true r e = entry r.present r (ltb-true i places e)
    go false r e = vacant_fits
