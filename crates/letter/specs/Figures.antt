-- The finished rows of any first entries, computed to the paper's figures.
use Rattle.std.specs.Prelude.{◌≡◌, Bool, ◌&&◌, map, ℕ, eqb, ltb, Option}
use Rattle.std.proofs.Math.Path.{refl}
use Rattle.std.proofs.Math.Bool.{true, false}
use Rattle.std.proofs.Common.{eqb-true}
use Rattle.bits.specs.Choice.{pick}
use Rattle.bits.specs.ChoiceLaws.{and_left, and_right}
use Rattle.bits.specs.Lists.{tabulate}
use Rattle.bits.specs.Bits.{has, bit, field, field_mask, mask_of, clear, clear_unless}
use Rattle.x86defs.specs.declared.CpuidResult.{CpuidResult}
use Rattle.x86defs.specs.Functions.{AmdMaximum, ExtendedAmdMaximum}
use Rattle.x86defs.specs.Fields.{fields_mask}
use Rattle.masking.specs.Masks as Masks
use Rattle.masking.specs.Kept.{kept_leaves, place_of, slot}
use Rattle.table.specs.Edition.{known_edition, joined_from, bits_between}
use Rattle.table.proofs.EditionLaws.{each_edition}
use Rattle.table.specs.Rows.{Rows, row, vacant}
use Rattle.topology.specs.Topology as Topology
use Rattle.checks.specs.ExtendedState as State
use Rattle.checks.specs.TopologyInputs.{inputs_of}
use Rattle.collect.specs.FirstEntries.{legacy_features, masked_at}
use Rattle.finish.specs.Finish as Finish
use Rattle.letter.specs.Paper.{Line, masked, version_clears, extended_clears, lines_with, xfem, avx512, combined, area, least_from}
use Rattle.letter.specs.Names.{place_for}

-- ---- the clears of each edition

abbrev pub clears_said : ℕ → Finish.YmmClears
clears_said n = record { version_ecx = version_clears n; features_ebx = 0x20; features_ecx = 0x700; extended_version_ecx = extended_clears n }

abbrev pub said_test : ℕ → Bool
said_test n =
    eqb (Finish.ymm_clears n).version_ecx (version_clears n) && eqb (Finish.ymm_clears n).extended_version_ecx (extended_clears n)

-- ---- the rows

module _ (g : ℕ → CpuidResult) where
  abbrev pub e : ℕ → Option ℕ → CpuidResult
  e l k = g (place_for l k)

  abbrev pub m : Bool → Rows
  m avic i = pick (ltb i 88) (row (masked_at avic i (g i))) vacant

  pub xfem_same : (avic : Bool) → State.xfem (m avic) ≡ xfem (masked avic e)
  unfolding State.xfem place_of kept_leaves slot Masks.extended_state0 mask_of legacy_features
  xfem_same avic = refl

  pub avx512_same : (avic : Bool) → Finish.has_avx512 (Finish.enabled_by (m avic)) ≡ avx512 (masked avic e)
  unfolding State.xfem Finish.enabled_by place_of kept_leaves slot Masks.extended_state0 mask_of legacy_features
  avx512_same avic = refl

  pub table_same : (n : ℕ) (avic : Bool) → Finish.ymm_clears n ≡ clears_said n
      → tabulate 88 (Finish.finished n (m avic))
      ≡ map (λ (l : Line). l.row)
      (lines_with n (masked avic e) (Topology.processors (Topology.topology_of (inputs_of (m avic)))) (λ k. has k (combined (masked avic e)) && true))
  unfolding State.xfem State.xss State.area_below Finish.finished Finish.settings Finish.enabled_by Finish.avx512_features_ebx Finish.avx512_features_ecx Finish.avx512_features_edx Finish.cet_ss Finish.rd_pid Finish.rdtscp Finish.ibrs_and_stibp Finish.btc_no Finish.hypervisor_present Finish.version_ecx Finish.features_ebx Finish.features_ecx Finish.features_edx Finish.extended_version_ecx Finish.extended_version_edx Finish.address_sizes_ebx Finish.unless_no_xss inputs_of Topology.topology_of Topology.shift_of Topology.least_power least_from place_of kept_leaves slot Masks.version_and_features Masks.extended_features Masks.extended_state0 Masks.extended_state1 Masks.extended_version_and_features Masks.extended_address_space_sizes Masks.extended_svm Masks.extended_optimization Masks.secure_avic_mask Masks.extended_sev fields_mask field_mask mask_of field bit clear clear_unless legacy_features AmdMaximum ExtendedAmdMaximum tabulate area
  table_same n true q = rw q refl
  table_same n false q = rw q refl
