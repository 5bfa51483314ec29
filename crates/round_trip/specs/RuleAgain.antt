-- Every rule on registers gives the same on its own result, masked again.
use Rattle.std.specs.Prelude.{◌≡◌, Bool, ◌&&◌, ℕ, ◌-◌, ◌^◌, ◌≤◌, ◌<◌, min, max, eqb}
use Rattle.std.proofs.Math.Path.{refl}
use Rattle.std.proofs.Common.{sym, ap, ◌∙◌, arith, lit≤}
use Rattle.std.proofs.Math.Bool.{true, false}
use Rattle.std.specs.Int.Bits.{bit_and, bit_or}
use Rattle.bits.specs.Choice.{pick}
use Rattle.bits.specs.Bits.{bit, has, mask_of, clear, clear_unless}
use Rattle.bits.specs.BitsLaws.{bit_lt, bit_and_lem, bit_or_lem, bits_ext}
use Rattle.x86defs.specs.declared.CpuidResult.{CpuidResult}
use Rattle.x86defs.specs.Functions.{cpuid_result}
use Rattle.masking.specs.Kept.{masks_at}
use Rattle.table.specs.Rows.{Row, Rows, row, vacant}
use Rattle.finish.specs.Finish.{Needed, Rule, change_row, Enabled, YmmClears, Settings, has_ymm, has_avx512, has_cet, avx512_features_ebx, avx512_features_ecx, avx512_features_edx, cet_ss, rd_pid, rdtscp, ibrs_and_stibp, btc_no, hypervisor_present, version_ecx, features_ebx, features_ecx, features_edx, extended_version_ecx, extended_version_edx, address_sizes_ebx, unless_no_xss, finish, remains}
use Rattle.finish.specs.Finish.Needed.{version_and_features, extended_features, thread_level_row, core_level_row, extended_state0, extended_state1, extended_version_and_features, extended_address_space_sizes, untouched}
use Rattle.finish.specs.Finish.Rule.{made, needed, component}
use Rattle.finish.specs.Kinds.{from_entry}
use Rattle.finish.specs.PlaceLaws.{is_needed}
use Rattle.collect.specs.FirstEntries.{masked_at}

-- ---- rules that keep some bits and set some, bit by bit

record Bitwise (f : ℕ → ℕ) : Type 0 where
  keeps : ℕ → ℕ
  sets : ℕ → ℕ
  at : (k x : ℕ) → bit k (f x) ≡ max (min (bit k x) (keeps k)) (sets k)

bitwise_same : Bitwise (λ x. x)
bitwise_same = record { keeps = λ k. 1; sets = λ k. 0; at = λ k x. omega (arith, bit_lt k x) }

min_max : (u s c : ℕ) → min (max u s) c ≡ max (min u c) (min s c)
min_max u s c = omega arith

min_min : (a k c : ℕ) → min (min a k) c ≡ min a (min k c)
min_min a k c = omega arith

bitwise_clear : {f : ℕ → ℕ} (keep : Bool) (m : ℕ) → Bitwise f → Bitwise (λ x. clear_unless keep m (f x))
unfolding clear_unless clear
bitwise_clear true m b = b
bitwise_clear {f} false m b = record {
  keeps = λ k. min (b.keeps k) (bit k (2 ^ 32 - 1 - m));
  sets = λ k. min (b.sets k) (bit k (2 ^ 32 - 1 - m));
  at = λ k x.
      bit_and_lem k (f x) (2 ^ 32 - 1 - m)
      ∙ rw (
        b.at k x,
        min_max (min (bit k x) (b.keeps k)) (b.sets k) (bit k (2 ^ 32 - 1 - m)),
        min_min (bit k x) (b.keeps k) (bit k
            (2 ^ 32 - 1 - m)),
      );
}

bitwise_or : {f : ℕ → ℕ} (m : ℕ) → Bitwise f → Bitwise (λ x. bit_or (f x) m)
bitwise_or {f} m b = record {
  keeps = b.keeps;
  sets = λ k. max (b.sets k) (bit k m);
  at = λ k x. bit_or_lem k (f x) m ∙ omega (arith, b.at k x);
}

-- such a rule, applied to its own result within a mask that the register lay within
bitwise_again : {f : ℕ → ℕ} → Bitwise f → (m x : ℕ) → bit_and x m ≡ x → f (bit_and (f x) m) ≡ f x
bitwise_again {f} b m x e =
    bits_ext _ _ (λ k. omega (arith, b.at k (bit_and (f x) m), b.at k x, bit_and_lem k (f x) m, bit_and_lem k x m, ap (bit k) e))

-- ---- each register

module _ (y : YmmClears) (c : Enabled) (m x : ℕ) (e : bit_and x m ≡ x) where
  version_ecx_again : version_ecx y c (bit_and (version_ecx y c x) m) ≡ version_ecx y c x
  unfolding version_ecx
  version_ecx_again = bitwise_again (bitwise_or _ (bitwise_clear (has_ymm c) _ bitwise_same)) m x e

  features_ebx_again : features_ebx y c (bit_and (features_ebx y c x) m) ≡ features_ebx y c x
  unfolding features_ebx
  features_ebx_again = bitwise_again (bitwise_clear (has_avx512 c) _ (bitwise_clear (has_ymm c) _ bitwise_same)) m x e

  features_ecx_again : features_ecx y c (bit_and (features_ecx y c x) m) ≡ features_ecx y c x
  unfolding features_ecx
  features_ecx_again =
      bitwise_again
      (bitwise_clear c.tsc_aux _ (bitwise_clear (has_avx512 c) _ (bitwise_clear (has_ymm c) _ (bitwise_clear (has_cet c) _ bitwise_same)))) m x e

  extended_version_ecx_again : extended_version_ecx y c (bit_and (extended_version_ecx y c x) m) ≡ extended_version_ecx y c x
  unfolding extended_version_ecx
  extended_version_ecx_again = bitwise_again (bitwise_clear (has_ymm c) _ bitwise_same) m x e

module _ (c : Enabled) (m x : ℕ) (e : bit_and x m ≡ x) where
  features_edx_again : features_edx c (bit_and (features_edx c x) m) ≡ features_edx c x
  unfolding features_edx
  features_edx_again = bitwise_again (bitwise_clear (has_avx512 c) _ bitwise_same) m x e

  extended_version_edx_again : extended_version_edx c (bit_and (extended_version_edx c x) m) ≡ extended_version_edx c x
  unfolding extended_version_edx
  extended_version_edx_again = bitwise_again (bitwise_clear c.tsc_aux _ bitwise_same) m x e

  unless_no_xss_again : unless_no_xss c (bit_and (unless_no_xss c x) m) ≡ unless_no_xss c x
  unfolding unless_no_xss
  unless_no_xss_again = go (eqb c.xss 0)
    where
      go : (b : Bool) → pick b 0 (bit_and (pick b 0 x) m) ≡ pick b 0 x
      go true = refl
      go false = e

pub has_of_bit : (k x y : ℕ) → bit k x ≡ bit k y → has k x ≡ has k y
unfolding has
has_of_bit k x y e = ap (λ (n : ℕ). eqb n 1) e

-- a bit that address_sizes_ebx neither clears nor sets
sizes_bit : (k x : ℕ) → bit k (2 ^ 32 - 1 - ibrs_and_stibp) ≡ 1 → bit k btc_no ≡ 0 → bit k (address_sizes_ebx x) ≡ bit k x
unfolding address_sizes_ebx clear_unless clear
sizes_bit k x p q = go (has 12 x)
  where
    go : (b : Bool) → bit k (pick b (bit_or x btc_no) (bit_and (bit_or x btc_no) (2 ^ 32 - 1 - ibrs_and_stibp))) ≡ bit k x
    go true = omega (arith, bit_or_lem k x btc_no)
    go false = omega (arith, bit_and_lem k (bit_or x btc_no) (2 ^ 32 - 1 - ibrs_and_stibp), bit_or_lem k x btc_no, bit_lt k x)

pub sizes_bit_3 : (x : ℕ) → bit 3 (address_sizes_ebx x) ≡ bit 3 x
sizes_bit_3 x = sizes_bit 3 x (unfold ibrs_and_stibp mask_of bit in refl) (unfold btc_no mask_of bit in refl)

sizes_bit_12 : (x : ℕ) → bit 12 (address_sizes_ebx x) ≡ bit 12 x
sizes_bit_12 x = sizes_bit 12 x (unfold ibrs_and_stibp mask_of bit in refl) (unfold btc_no mask_of bit in refl)

-- the mask keeps bit 12, on which the others depend
address_sizes_ebx_again : (m x : ℕ) → bit 12 m ≡ 1 → bit_and x m ≡ x → address_sizes_ebx (bit_and (address_sizes_ebx x) m) ≡ address_sizes_ebx x
unfolding address_sizes_ebx
address_sizes_ebx_again m x h e =
    let y : ℕ = bit_and (address_sizes_ebx x) m in
    let p : bit 12 y ≡ bit 12 x = bit_and_lem 12 (address_sizes_ebx x) m ∙ omega (arith, sizes_bit_12 x, bit_lt 12 x) in
    ap (λ (b : Bool). clear_unless b ibrs_and_stibp (bit_or y btc_no)) (has_of_bit 12 y x p)
    ∙ bitwise_again (bitwise_clear (has 12 x) ibrs_and_stibp (bitwise_or btc_no bitwise_same)) m x e

-- ---- each rule: a row that masking leaves as it is

abbrev pub is_sizes : Rule → Bool
is_sizes = is_needed extended_address_space_sizes

module _ (c : Settings) (avic : Bool) (i : ℕ) (r : CpuidResult) where
  change_again : (t : Needed) → masked_at avic i r ≡ r → (is_sizes (needed t) ≡ true → bit 12 (masks_at avic i).ebx ≡ 1)
      → change_row c t (masked_at avic i (change_row c t r)) ≡ change_row c t r
  change_again version_and_features e h = λ k.
      cpuid_result (e k).eax (e k).ebx (version_ecx_again c.clears c.enabled _ _ (λ j. (e j).ecx) k) (e k).edx
  change_again extended_features e h = λ k.
      cpuid_result (e k).eax
      (features_ebx_again c.clears c.enabled _ _ (λ j. (e j).ebx) k)
      (features_ecx_again c.clears c.enabled _ _ (λ j. (e j).ecx) k)
      (features_edx_again c.enabled _ _ (λ j. (e j).edx) k)
  change_again thread_level_row e h = refl
  change_again core_level_row e h = refl
  change_again extended_state0 e h = λ k. cpuid_result (e k).eax (e k).ebx c.save_area (e k).edx
  change_again extended_state1 e h = λ k.
      cpuid_result (e k).eax (e k).ebx
      (unless_no_xss_again c.enabled _ _ (λ j. (e j).ecx) k)
      (unless_no_xss_again c.enabled _ _ (λ j. (e j).edx) k)
  change_again extended_version_and_features e h = λ k.
      cpuid_result (e k).eax (e k).ebx
      (extended_version_ecx_again c.clears c.enabled _ _ (λ j. (e j).ecx) k)
      (extended_version_edx_again c.enabled _ _ (λ j. (e j).edx) k)
  change_again extended_address_space_sizes e h = λ k.
      cpuid_result (e k).eax (address_sizes_ebx_again _ _ (h refl) (λ j. (e j).ebx) k) (e k).ecx (e k).edx
  change_again untouched e h = e

  pub finish_again : (t : Rule) → (from_entry t ≡ true → masked_at avic i r ≡ r) → (is_sizes t ≡ true → bit 12 (masks_at avic i).ebx ≡ 1)
      → finish c t (pick (from_entry t) (row (masked_at avic i (finish c t r))) vacant).result ≡ finish c t r
  finish_again (made t) e h = refl
  finish_again (needed t) e h = change_again t (e refl) h
  finish_again (component n) e h = e refl

-- whether a row remains, from whether it remained
pub remains_again : (c : Settings) (t : Rule) (p : Bool) → remains c t (pick (from_entry t) (remains c t p) false) ≡ remains c t p
remains_again c (made t) p = refl
remains_again c (needed t) p = refl
remains_again c (component k) p = go (has k (bit_or c.enabled.xfem c.enabled.xss))
  where
    go : (b : Bool) → (b && (b && p)) ≡ (b && p)
    go true = refl
    go false = refl
