-- Document 01, "Misreadings", each against a row set on which the right reading and the wrong one differ. By computation.
use Rattle.std.specs.Prelude.{◌≡◌, refl, [], ◌∷◌, ℕ, eqb}
use Rattle.bits.specs.Choice.{pick}
use Rattle.bits.specs.Bits.{bit, has, field, mask_of, clear, clear_unless}
use Rattle.x86defs.specs.Functions.{cpuid_result}
use Rattle.masking.specs.Place
use Rattle.topology.specs.Topology.{topology_of, threads_in, least_power, shift_of}
use Rattle.table.specs.Rows.{Rows, row, vacant}
use Rattle.checks.specs.ExtendedState.{xfem, xss, area_below}
use Rattle.checks.specs.TopologyInputs.{inputs_of}
use Rattle.table.specs.Edition.{joined_from, bits_between}
use Rattle.finish.specs.Finish.{finished, settings, enabled_by, ymm_clears, edition1, features_ecx, cet_ss, rd_pid, avx512_features_ecx}

-- XFEM and XSS as given, D.11 of 4,096 bytes at 576, and 7.0 with CET_SS
abbrev state_rows : ℕ → ℕ → Rows
state_rows x y i =
    pick (eqb i Place.extended_features) (row (cpuid_result 0 0 0x80 0))
    (pick (eqb i (Place.extended_state 0)) (row (cpuid_result x 0 0 0))
    (pick (eqb i (Place.extended_state 1)) (row (cpuid_result 0xB 0 y 0)) (pick (eqb i (Place.extended_state 11)) (row (cpuid_result 4096 576 1 0)) vacant)))

-- the area is sized by XFEM: a supervisor component adds nothing
pub area_by_xfem : (finished 1 (state_rows 3 0x1800) (Place.extended_state 0)).result.ecx ≡ 576
unfolding finished settings enabled_by xfem xss area_below has bit field inputs_of topology_of threads_in least_power shift_of
area_by_xfem = refl

-- CET_SS needs both XSS bits
pub cet_needs_both :
    (finished 1 (state_rows 3 0x800) Place.extended_features).result.ecx
    ∷ (finished 1 (state_rows 3 0x1000) Place.extended_features).result.ecx
    ∷ (finished 1 (state_rows 3 0x1800) Place.extended_features).result.ecx
    ∷ []
    ≡ 0 ∷ 0 ∷ 0x80 ∷ []
unfolding finished settings enabled_by ymm_clears bits_between joined_from edition1 features_ecx cet_ss rd_pid avx512_features_ecx mask_of clear clear_unless xfem xss area_below has
    bit field inputs_of topology_of threads_in least_power shift_of
cet_needs_both = refl
