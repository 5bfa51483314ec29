-- Document 01, "Corners of mod.rs", extended state: XFEM is D.0.EAX. XSS is D.1.ECX if D.1.EAX has both bit 1 (XSAVEC) and bit 3
-- (XSAVES), else 0. The combined mask is XFEM or XSS. The area is the largest of 576 and EAX + EBX over subleaves from 2 up in the mask.
use Rattle.std.specs.Prelude.{Bool, true, ◌&&◌, ℕ, zero, suc, ◌+◌, ◌^◌, max, ltb, leb, None, Option, Some}
use Rattle.std.specs.Int.Bits.{bit_or}
use Rattle.bits.specs.Choice.{pick}
use Rattle.bits.specs.Bits.{has}
use Rattle.x86defs.specs.declared.CpuidResult.{CpuidResult}
use Rattle.x86defs.specs.ExtendedStateEnumerationSubleaf1Eax as Subleaf1Eax
use Rattle.masking.specs.Place
use Rattle.table.specs.Rows.{Rows}

unfoldable pub xfem : Rows → ℕ
xfem m = (m (Place.extended_state 0)).result.eax

-- XSS of the row of D.1
abbrev pub xss_of : CpuidResult → ℕ
xss_of d =
    pick (has (Subleaf1Eax.position Subleaf1Eax.ExtendedStateEnumerationSubleaf1Eax.xsave_c) d.eax
    && has (Subleaf1Eax.position Subleaf1Eax.ExtendedStateEnumerationSubleaf1Eax.xsave_s) d.eax)
    d.ecx
    0

unfoldable pub xss : Rows → ℕ
xss m = xss_of (m (Place.extended_state 1)).result

unfoldable pub combined_mask : Rows → ℕ
combined_mask m = bit_or (xfem m) (xss m)

-- "Each combined bit from 2 up needs its subleaf": whether subleaf k is there if the mask x needs it
abbrev pub supplied : Rows → ℕ → ℕ → Bool
supplied m x k = pick (has k x) (m (Place.extended_state k)).present true

-- what a subleaf of the mask adds to the area
abbrev pub sum_at : Rows → ℕ → ℕ
sum_at m k = (m (Place.extended_state k)).result.eax + (m (Place.extended_state k)).result.ebx

-- an area of n bytes with a subleaf that ends at `sum`, if it is used
abbrev pub grown : ℕ → Bool → ℕ → ℕ
grown n used sum = max n (pick used sum 0)

-- the area over the subleaves below n that a mask has
unfoldable pub area_below : Rows → ℕ → ℕ → ℕ
area_below m x zero = 576
area_below m x (suc k) = grown (area_below m x k) (leb 2 k && has k x) (sum_at m k)

-- the area over any mask
abbrev pub save_area : Rows → ℕ → ℕ
save_area m x = area_below m x 64

-- a size as a 32-bit register has it
unfoldable pub size_of : ℕ → Option ℕ
size_of n = pick (ltb n (2 ^ 32)) (Some n) None
