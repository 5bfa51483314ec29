-- Joins by and go through every rule on feature registers: what a rule makes of the and of two registers, under the and of what is
-- enabled, is the and of what it makes of each. "At least" follows, by one argument for all registers.
use Rattle.std.specs.Prelude.{◌≡◌, Bool, true, false, ◌&&◌, ℕ, ◌-◌, ◌^◌}
use Rattle.std.proofs.Math.Path.{refl, ap}
use Rattle.std.proofs.Common.{sym, ap₂, ◌∙◌}
use Rattle.std.specs.Int.Bits.{bit_and, bit_or}
use Rattle.bits.specs.ChoiceLaws.{and_implied, and_swap}
use Rattle.bits.specs.Bits.{has, mask_of, clear, clear_unless, Within}
use Rattle.bits.specs.BitsLaws.{or_and, and_of_within, within_of_and, within_refl, within_eq, within_and, within_or, clear_unless_and}
use Rattle.bits.proofs.BitsLaws.{has_and}
use Rattle.table.specs.Edition.{joined_from, bits_between}
use Rattle.finish.specs.Finish.{Enabled, YmmClears, edition1, ymm_clears, has_ymm, has_avx512, has_cet, version_ecx, features_ebx, features_ecx, features_edx, extended_version_ecx, extended_version_edx, address_sizes_ebx, hypervisor_present, ibrs_and_stibp, btc_no}

-- what two sets both enable
abbrev pub both_enable : Enabled → Enabled → Enabled
both_enable c d = record { xfem = bit_and c.xfem d.xfem; xss = bit_and c.xss d.xss; tsc_aux = c.tsc_aux && d.tsc_aux }

-- a test of what is enabled holds of both exactly where it holds of each
pub record Splits (test : Enabled → Bool) : Type 0 where
  pub law : (c d : Enabled) → test (both_enable c d) ≡ (test c && test d)

splits_and : {f g : Enabled → Bool} → Splits f → Splits g → Splits (λ c. f c && g c)
splits_and {f} {g} p q = record { law = λ c d. ap₂ ◌&&◌ (p.law c d) (q.law c d) ∙ and_swap (f c) (f d) (g c) (g d) }

in_xfem : (k : ℕ) → Splits (λ c. has k c.xfem)
in_xfem k = record { law = λ c d. has_and k c.xfem d.xfem }

in_xss : (k : ℕ) → Splits (λ c. has k c.xss)
in_xss k = record { law = λ c d. has_and k c.xss d.xss }

pub ymm_splits : Splits has_ymm
ymm_splits = in_xfem 2

pub avx512_splits : Splits has_avx512
avx512_splits = splits_and (in_xfem 2) (splits_and (in_xfem 5) (splits_and (in_xfem 6) (in_xfem 7)))

pub cet_splits : Splits has_cet
cet_splits = splits_and (in_xss 11) (in_xss 12)

pub tsc_aux_splits : Splits (λ c. c.tsc_aux)
tsc_aux_splits = record { law = λ c d. refl }

-- a clear under such a test
pub clear_and : {test : Enabled → Bool} → Splits test → (m : ℕ) (c d : Enabled) (x y z : ℕ) → z ≡ bit_and x y
    → clear_unless (test (both_enable c d)) m z ≡ bit_and (clear_unless (test c) m x) (clear_unless (test d) m y)
clear_and {test} p m c d x y z e = ap₂ (λ (b : Bool) (n : ℕ). clear_unless b m n) (p.law c d) e ∙ clear_unless_and (test c) (test d) m x y

pub features_edx_and : (c d : Enabled) (x y : ℕ) → features_edx (both_enable c d) (bit_and x y) ≡ bit_and (features_edx c x) (features_edx d y)
unfolding features_edx
features_edx_and c d x y = clear_and avx512_splits _ c d x y _ refl

pub extended_version_edx_and : (c d : Enabled) (x y : ℕ)
    → extended_version_edx (both_enable c d) (bit_and x y) ≡ bit_and (extended_version_edx c x) (extended_version_edx d y)
unfolding extended_version_edx
extended_version_edx_and c d x y = clear_and tsc_aux_splits _ c d x y _ refl

pub address_sizes_ebx_and : (x y : ℕ) → address_sizes_ebx (bit_and x y) ≡ bit_and (address_sizes_ebx x) (address_sizes_ebx y)
unfolding address_sizes_ebx
address_sizes_ebx_and x y =
    ap₂ (λ (b : Bool) (n : ℕ). clear_unless b ibrs_and_stibp n) (has_and 12 x y) (or_and x y btc_no)
    ∙ clear_unless_and (has 12 x) (has 12 y) ibrs_and_stibp (bit_or x btc_no) (bit_or y btc_no)

-- ---- at least

-- d enables at least what c does
pub record EnablesAtLeast (c d : Enabled) : Type 0 where
  pub xfem : Within c.xfem d.xfem
  pub xss : Within c.xss d.xss
  pub tsc_aux : c.tsc_aux ≡ true → d.tsc_aux ≡ true

pub both_enable_less : {c d : Enabled} → EnablesAtLeast c d → both_enable c d ≡ c
both_enable_less {c} {d} h i = record {
  xfem = and_of_within h.xfem i;
  xss = and_of_within h.xss i;
  tsc_aux = and_implied c.tsc_aux d.tsc_aux h.tsc_aux i;
}

-- a rule that ands go through gives at least as much for at least as much
pub at_least_of_and : (f : Enabled → ℕ → ℕ) → ((c d : Enabled) (x y : ℕ) → f (both_enable c d) (bit_and x y) ≡ bit_and (f c x) (f d y))
    → {c d : Enabled} {x y : ℕ} → EnablesAtLeast c d → Within x y → Within (f c x) (f d y)
at_least_of_and f law {c} {d} {x} {y} h g = within_of_and (sym (law c d x y) ∙ ap₂ f (both_enable_less h) (and_of_within g))

-- ---- fewer clears

-- z clears no bit that y leaves: what remains of a register is at least as much
abbrev pub leaves : ℕ → ℕ
leaves m = 2 ^ 32 - 1 - m

pub record ClearsFewer (y z : YmmClears) : Type 0 where
  pub version_ecx : Within (leaves y.version_ecx) (leaves z.version_ecx)
  pub features_ebx : Within (leaves y.features_ebx) (leaves z.features_ebx)
  pub features_ecx : Within (leaves y.features_ecx) (leaves z.features_ecx)
  pub extended_version_ecx : Within (leaves y.extended_version_ecx) (leaves z.extended_version_ecx)

pub clears_same : {y z : YmmClears} → y ≡ z → ClearsFewer y z
clears_same e = record {
  version_ecx = within_eq (ap (λ (c : YmmClears). leaves c.version_ecx) e);
  features_ebx = within_eq (ap (λ (c : YmmClears). leaves c.features_ebx) e);
  features_ecx = within_eq (ap (λ (c : YmmClears). leaves c.features_ecx) e);
  extended_version_ecx = within_eq (ap (λ (c : YmmClears). leaves c.extended_version_ecx) e);
}

-- edition 1 clears no bit that edition 2 leaves
pub second_to_first : ClearsFewer (ymm_clears 2) (ymm_clears 1)
unfolding ymm_clears bits_between joined_from edition1 mask_of
second_to_first = record {
  version_ecx = within_of_and refl;
  features_ebx = within_of_and refl;
  features_ecx = within_of_and refl;
  extended_version_ecx = within_of_and refl;
}

clear_fewer : (b : Bool) (m k : ℕ) {x y : ℕ} → Within (leaves m) (leaves k) → Within x y → Within (clear_unless b m x) (clear_unless b k y)
unfolding clear_unless clear
clear_fewer true m k h g = g
clear_fewer false m k h g = within_and g h

module _ {y z : YmmClears} (h : ClearsFewer y z) (c : Enabled) (x : ℕ) where
  pub version_ecx_fewer : Within (version_ecx y c x) (version_ecx z c x)
  unfolding version_ecx
  version_ecx_fewer = within_or (clear_fewer (has_ymm c) _ _ h.version_ecx (within_refl x)) (within_refl hypervisor_present)

  pub features_ebx_fewer : Within (features_ebx y c x) (features_ebx z c x)
  unfolding features_ebx
  features_ebx_fewer = clear_fewer (has_avx512 c) _ _ (within_refl _) (clear_fewer (has_ymm c) _ _ h.features_ebx (within_refl x))

  pub features_ecx_fewer : Within (features_ecx y c x) (features_ecx z c x)
  unfolding features_ecx
  features_ecx_fewer =
      clear_fewer c.tsc_aux _ _ (within_refl _)
      (clear_fewer (has_avx512 c) _ _ (within_refl _) (clear_fewer (has_ymm c) _ _ h.features_ecx (within_refl _)))

  pub extended_version_ecx_fewer : Within (extended_version_ecx y c x) (extended_version_ecx z c x)
  unfolding extended_version_ecx
  extended_version_ecx_fewer = clear_fewer (has_ymm c) _ _ h.extended_version_ecx (within_refl x)
