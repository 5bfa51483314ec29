-- Finished under edition 2, rows are those of edition 1 without the three bits: bit by bit in the two registers, by computation elsewhere.
use Rattle.std.specs.Prelude.{◌≡◌, Bool, ◌||◌, ℕ, ◌-◌, ◌^◌, ◌<◌}
use Rattle.std.proofs.Math.Path.{refl}
use Rattle.std.proofs.Common.{sym, ap, ◌∙◌, arith, mod-eq_of_lt}
use Rattle.std.proofs.Math.Bool.{true, false}
use Rattle.std.specs.Int.Bits.{bit_and, bit_or}
use Rattle.std.proofs.lemmas.Nat.{and_mask}
use Rattle.std.proofs.Math.Dec.{eqb}
use Rattle.bits.specs.Choice.{pick}
use Rattle.bits.specs.ChoiceLaws.{pick_false}
use Rattle.bits.specs.Lists.{tabulate}
use Rattle.bits.specs.ListsLaws.{tabulate_at}
use Rattle.bits.specs.Bits.{bit, has, mask_of, clear, clear_unless, Within}
use Rattle.bits.specs.BitsLaws.{bit_and_lem, bit_or_lem, bits_ext, within_of_and}
use Rattle.x86defs.specs.declared.CpuidResult.{CpuidResult}
use Rattle.x86defs.specs.Functions.{cpuid_result}
use Rattle.masking.specs.Kept.{places}
use Rattle.masking.specs.Place
use Rattle.table.specs.Edition.{f16c, xop_and_fma4, joined_from, bits_between}
use Rattle.table.specs.Rows.{Rows}
use Rattle.finish.specs.Finish.{Enabled, Rule, edition1, ymm_clears, rule_at, settings, version_ecx, features_ebx, features_ecx, extended_version_ecx, has_ymm, finish, remains, hypervisor_present}
use Rattle.finish.specs.Finish.Rule.{made, needed, component}

-- ---- the two registers, where state is missing

-- bits cleared together are cleared one after the other, under a bit that is set
clears_in_turn : (x h p q : ℕ) {r : ℕ} → r ≡ bit_and p q → Within h q → bit_or (bit_and x r) h ≡ bit_and (bit_or (bit_and x p) h) q
clears_in_turn x h p q {r} e w =
    bits_ext _ _
    (λ k. omega (arith, bit_or_lem k (bit_and x r) h, bit_and_lem k x r, ap (bit k) e, bit_and_lem k p q, bit_and_lem k (bit_or (bit_and x p) h) q, bit_or_lem k (bit_and x p) h, bit_and_lem k x p, w.at k))

-- a cleared register within a wider one
clears_within : (x p q : ℕ) → Within q p → bit_and x q ≡ bit_and (bit_and x p) q
clears_within x p q w = bits_ext _ _ (λ k. omega (arith, bit_and_lem k x q, bit_and_lem k (bit_and x p) q, bit_and_lem k x p, w.at k))

pub version_second : (c : Enabled) (x : ℕ) → version_ecx (ymm_clears 2) c x ≡ clear_unless (has_ymm c) f16c (version_ecx (ymm_clears 1) c x)
unfolding version_ecx clear_unless clear ymm_clears bits_between joined_from edition1 hypervisor_present mask_of
version_second c x = go (has 2 c.xfem)
  where
    go : (b : Bool)
        → bit_or (pick b x (bit_and x (2 ^ 32 - 1 - 0x30001000))) 0x80000000
        ≡ pick b (bit_or (pick b x (bit_and x (2 ^ 32 - 1 - 0x10001000))) 0x80000000)
        (bit_and (bit_or (pick b x (bit_and x (2 ^ 32 - 1 - 0x10001000))) 0x80000000) (2 ^ 32 - 1 - 0x20000000))
    go true = refl
    go false = clears_in_turn x 0x80000000 (2 ^ 32 - 1 - 0x10001000) (2 ^ 32 - 1 - 0x20000000) refl (within_of_and refl)

pub extended_second : (c : Enabled) (x : ℕ) → extended_version_ecx (ymm_clears 2) c x ≡ clear_unless (has_ymm c) xop_and_fma4 (extended_version_ecx (ymm_clears 1) c x)
unfolding extended_version_ecx clear_unless clear ymm_clears bits_between joined_from mask_of
extended_second c x = go (has 2 c.xfem)
  where
    go : (b : Bool)
        → pick b x (bit_and x (2 ^ 32 - 1 - 0x10800))
        ≡ pick b (pick b x (bit_and x (2 ^ 32 - 1 - 0))) (bit_and (pick b x (bit_and x (2 ^ 32 - 1 - 0))) (2 ^ 32 - 1 - 0x10800))
    go true = refl
    go false = clears_within x (2 ^ 32 - 1) (2 ^ 32 - 1 - 0x10800) (within_of_and refl)

-- edition 1 clears nothing there
pub extended_first : (c : Enabled) (x : ℕ) → x < 2 ^ 32 → extended_version_ecx (ymm_clears 1) c x ≡ x
unfolding extended_version_ecx clear_unless clear ymm_clears bits_between joined_from
extended_first c x l = go (has 2 c.xfem)
  where
    go : (b : Bool) → pick b x (bit_and x (2 ^ 32 - 1 - 0)) ≡ x
    go true = refl
    go false = and_mask x 32 ∙ mod-eq_of_lt l

-- ---- every row

abbrev pub touched : ℕ → Bool
touched i = eqb i Place.version_and_features || eqb i Place.extended_version_and_features

-- the others are the same: one equation over all places
all_same : (m : Rows) (r : ℕ → CpuidResult)
    → tabulate places (λ i. pick (touched i) (cpuid_result 0 0 0 0) (finish (settings 2 m) (rule_at i) (r i)))
    ≡ tabulate places (λ i. pick (touched i) (cpuid_result 0 0 0 0) (finish (settings 1 m) (rule_at i) (r i)))
unfolding tabulate settings ymm_clears edition1 features_ebx features_ecx
all_same m r = refl

pub same_elsewhere : (m : Rows) (r : ℕ → CpuidResult) (i : ℕ) → i < places → touched i ≡ false
    → finish (settings 2 m) (rule_at i) (r i) ≡ finish (settings 1 m) (rule_at i) (r i)
same_elsewhere m r i l e = sym (pick_false _ _ e) ∙ tabulate_at places _ _ (all_same m r) i l ∙ pick_false _ _ e

-- which rows remain does not depend on the edition
pub remains_same : (m : Rows) (t : Rule) (p : Bool) → remains (settings 2 m) t p ≡ remains (settings 1 m) t p
unfolding settings
remains_same m (made t) p = refl
remains_same m (needed t) p = refl
remains_same m (component k) p = refl
