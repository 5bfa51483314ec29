-- The compacted size by figures: alignment, order, and the mask.
use Rattle.std.specs.Prelude.{◌≡◌, refl, List, [], ◌∷◌, ℕ, eqb}
use Rattle.bits.specs.Choice.{pick}
use Rattle.bits.specs.Bits.{bit, has}
use Rattle.x86defs.specs.Functions.{cpuid_result}
use Rattle.masking.specs.Place
use Rattle.table.specs.Rows.{Rows, row, vacant}
use Rattle.guest_state.specs.Compact.{component_start, placed, compact_below, compact_size}

-- D.2 of 256 bytes, D.9 of 8 bytes, D.11 of 16 bytes, D.12 of 24 bytes aligned to 64, D.62 of 2^32 - 577 bytes, D.63 of no bytes aligned to 64
unfoldable pub rows : Rows
rows i =
    pick (eqb i (Place.extended_state 2)) (row (cpuid_result 256 576 0 0))
    (pick (eqb i (Place.extended_state 9)) (row (cpuid_result 8 2432 0 0))
    (pick (eqb i (Place.extended_state 11)) (row (cpuid_result 16 0 1 0))
    (pick (eqb i (Place.extended_state 12)) (row (cpuid_result 24 0 3 0))
    (pick (eqb i (Place.extended_state 62)) (row (cpuid_result 0xFFFFFDBF 0 0 0)) (pick (eqb i (Place.extended_state 63)) (row (cpuid_result 0 0 2 0)) vacant)))))

unfoldable pub sizes : List ℕ
sizes =
    compact_size rows 0x3
    ∷ compact_size rows 0x7
    ∷ compact_size rows 0x207
    ∷ compact_size rows 0xA07
    ∷ compact_size rows 0x1A07
    ∷ compact_size rows 0x1007
    ∷ compact_size rows 0x4000000000000003
    ∷ compact_size rows 0xC000000000000003
    ∷ []

-- 576; +256 = 832; +8 = 840; +16 = 856; raised to 896, +24 = 920; 832 is a multiple of 64, +24 = 856; the largest that is given; its end
-- raised to a multiple of 64 for a subleaf of no bytes
pub sizes_are : sizes ≡ 576 ∷ 832 ∷ 840 ∷ 856 ∷ 920 ∷ 856 ∷ 0xFFFFFFFF ∷ 0x100000000 ∷ []
unfolding sizes rows compact_below placed component_start has bit
sizes_are = refl
