-- Joins by and go through every rule on feature registers: what a rule makes of the and of two registers, under the and of what is
-- enabled, is the and of what it makes of each. "At least" follows, by one argument for all registers.
use Rattle.std.specs.Prelude.{◌≡◌, ℕ}
use Rattle.std.proofs.Math.Path.{refl, ap}
use Rattle.std.proofs.Common.{◌∙◌}
use Rattle.std.specs.Int.Bits.{bit_and, bit_or}
use Rattle.bits.specs.Bits.{clear_unless}
use Rattle.bits.specs.BitsLaws.{or_and}
use Rattle.finish.specs.Finish.{Enabled, YmmClears, has_ymm, version_ecx, features_ebx, features_ecx, extended_version_ecx, hypervisor_present}
use Rattle.finish.specs.FeatureLaws.{avx512_splits, both_enable, cet_splits, clear_and, tsc_aux_splits, ymm_splits}

-- ---- each register

module _ (clears : YmmClears) where
  pub version_ecx_and : (c d : Enabled) (x y : ℕ)
      → version_ecx clears (both_enable c d) (bit_and x y) ≡ bit_and (version_ecx clears c x) (version_ecx clears d y)
  unfolding version_ecx
  version_ecx_and c d x y =
      ap (λ (n : ℕ). bit_or n hypervisor_present) (clear_and ymm_splits clears.version_ecx c d x y _ refl)
      ∙ or_and (clear_unless (has_ymm c) clears.version_ecx x) (clear_unless (has_ymm d) clears.version_ecx y) hypervisor_present

  pub features_ebx_and : (c d : Enabled) (x y : ℕ)
      → features_ebx clears (both_enable c d) (bit_and x y) ≡ bit_and (features_ebx clears c x) (features_ebx clears d y)
  unfolding features_ebx
  features_ebx_and c d x y = clear_and avx512_splits _ c d _ _ _ (clear_and ymm_splits _ c d x y _ refl)

  pub features_ecx_and : (c d : Enabled) (x y : ℕ)
      → features_ecx clears (both_enable c d) (bit_and x y) ≡ bit_and (features_ecx clears c x) (features_ecx clears d y)
  unfolding features_ecx
  features_ecx_and c d x y =
      clear_and tsc_aux_splits _ c d _ _ _
      (clear_and avx512_splits _ c d _ _ _ (clear_and ymm_splits _ c d _ _ _ (clear_and cet_splits _ c d x y _ refl)))

  pub extended_version_ecx_and : (c d : Enabled) (x y : ℕ)
      → extended_version_ecx clears (both_enable c d) (bit_and x y) ≡ bit_and (extended_version_ecx clears c x) (extended_version_ecx clears d y)
  unfolding extended_version_ecx
  extended_version_ecx_and c d x y = clear_and ymm_splits _ c d x y _ refl
