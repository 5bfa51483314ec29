-- A pool of servers 0 to n, each accepted by itself: the pool is accepted, 19 due or not; its rows are those that all tables have; where 19
-- is not due its feature registers are the and of the servers', the greatest lower bound.
use Rattle.std.specs.Prelude.{◌≡◌, Ok}
use Rattle.std.proofs.Math.Path.{refl, ap}
use Rattle.std.proofs.Common.{sym, ◌∙◌, le_refl, arith}
use Prim.Native.Nat.{ℕ, zero, suc, ◌≤◌}
use Rattle.std.specs.Int.Bits.{bit_and}
use Rattle.bits.specs.Bits.{Within}
use Rattle.bits.specs.BitsLaws.{within_eq, within_trans}
use Rattle.x86defs.specs.declared.CpuidResult.{CpuidResult}
use Rattle.table.specs.Rows.{Rows}
use Rattle.checks.specs.ExtendedState.{combined_mask}
use Rattle.checks.specs.Checks.{rows_verdict}
use Rattle.finish.specs.Kinds.{Kind, Kinds}
use Rattle.finish.specs.Kinds.Kind.{feature, feature_but28, area, freed, other}
use Rattle.finish.specs.MeetLaws.{MaskedState, FeatureMeet}
use Rattle.register_masks.specs.Join.{pool, and_to}
use Rattle.register_masks.specs.Alike.{AlikeAt}
use Rattle.register_masks.specs.Features.{FeatureIs, FeaturesAre, FeatureWithin}
use Rattle.register_masks.specs.RegisterRunLaws.{and_to_ext, and_to_within, and_to_greatest}
use Rattle.register_masks.specs.JoinedLaws.{mask_with, masked_with}

-- what is asked of each server's masked first entries
pub record Servers (f : ℕ → Rows) (n : ℕ) : Type 0 where
  pub accepted : (k : ℕ) → k ≤ n → rows_verdict (f k) ≡ Ok tt
  pub masked : (k : ℕ) → k ≤ n → MaskedState (f k)

pub fewer : (f : ℕ → Rows) (n : ℕ) → Servers f (suc n) → Servers f n
fewer f n s = record { accepted = λ k l. s.accepted k (omega arith); masked = λ k l. s.masked k (omega arith) }

pub pool_masked : (f : ℕ → Rows) (n : ℕ) → Servers f n → MaskedState (pool f n)
unfolding pool
pool_masked f zero s = s.masked 0 (le_refl 0)
pool_masked f (suc n) s = masked_with (pool f n) (f (suc n)) (pool_masked f n (fewer f n s))

pub pool_mask : (f : ℕ → Rows) (n : ℕ) → Servers f n → combined_mask (pool f n) ≡ and_to (λ k. combined_mask (f k)) n
unfolding pool and_to
pool_mask f zero s = refl
pool_mask f (suc n) s =
    mask_with (pool f n) (f (suc n)) (pool_masked f n (fewer f n s)) (s.masked (suc n) (le_refl (suc n)))
    ∙ ap (λ (x : ℕ). bit_and x (combined_mask (f (suc n)))) (pool_mask f n (fewer f n s))

pub pool_mask_greatest : (f : ℕ → Rows) (n : ℕ) → Servers f n → (y : ℕ) → ((k : ℕ) → k ≤ n → Within y (combined_mask (f k))) → Within y (combined_mask (pool f n))
pool_mask_greatest f n s y h = within_trans (and_to_greatest (λ k. combined_mask (f k)) n h) (within_eq (sym (pool_mask f n s)))

pub pool_mask_within : (f : ℕ → Rows) (n : ℕ) → Servers f n → (k : ℕ) → k ≤ n → Within (combined_mask (pool f n)) (combined_mask (f k))
pool_mask_within f n s k u = within_trans (within_eq (pool_mask f n s)) (and_to_within (λ j. combined_mask (f j)) n k u)

pub fewer_alike : (f : ℕ → Rows) (n i : ℕ) → AlikeAt f (suc n) i → AlikeAt f n i
fewer_alike f n i a = record { with = λ k l. a.with k (omega arith) }

-- ---- feature registers, one by one

pub feature_first : (k : Kind) (x : ℕ → ℕ) → FeatureIs k (x 0) x 0
unfolding and_to
feature_first feature x = refl
feature_first feature_but28 x = refl
feature_first area x = tt
feature_first freed x = tt
feature_first other x = tt

pub feature_next : (k : Kind) (z y : ℕ) (x : ℕ → ℕ) (n : ℕ) → FeatureMeet k z y (x (suc n)) → FeatureIs k y x n → FeatureIs k z x (suc n)
unfolding and_to
feature_next feature z y x n p q = p ∙ ap (λ (w : ℕ). bit_and w (x (suc n))) q
feature_next feature_but28 z y x n p q = p ∙ ap (λ (w : ℕ). bit_and w (x (suc n))) q
feature_next area z y x n p q = tt
feature_next freed z y x n p q = tt
feature_next other z y x n p q = tt

is_ext : (k : Kind) {z w : ℕ} (x y : ℕ → ℕ) (n : ℕ) → z ≡ w → ((j : ℕ) → j ≤ n → x j ≡ y j) → FeatureIs k z x n → FeatureIs k w y n
is_ext feature x y n p h e = sym p ∙ e ∙ and_to_ext x y n h
is_ext feature_but28 x y n p h e = sym p ∙ e ∙ and_to_ext x y n h
is_ext area x y n p h e = tt
is_ext freed x y n p h e = tt
is_ext other x y n p h e = tt

pub features_ext : (k : Kinds) {z w : CpuidResult} {x y : ℕ → CpuidResult} → z ≡ w → (n : ℕ) → ((j : ℕ) → j ≤ n → x j ≡ y j) → FeaturesAre k z x n → FeaturesAre k w y n
features_ext k {z} {w} {x} {y} p n h e = record {
  eax = is_ext k.eax (λ j. (x j).eax) (λ j. (y j).eax) n (ap (λ (r : CpuidResult). r.eax) p) (λ j l. ap (λ (r : CpuidResult). r.eax) (h j l)) e.eax;
  ebx = is_ext k.ebx (λ j. (x j).ebx) (λ j. (y j).ebx) n (ap (λ (r : CpuidResult). r.ebx) p) (λ j l. ap (λ (r : CpuidResult). r.ebx) (h j l)) e.ebx;
  ecx = is_ext k.ecx (λ j. (x j).ecx) (λ j. (y j).ecx) n (ap (λ (r : CpuidResult). r.ecx) p) (λ j l. ap (λ (r : CpuidResult). r.ecx) (h j l)) e.ecx;
  edx = is_ext k.edx (λ j. (x j).edx) (λ j. (y j).edx) n (ap (λ (r : CpuidResult). r.edx) p) (λ j l. ap (λ (r : CpuidResult). r.edx) (h j l)) e.edx;
}

pub is_greatest : (k : Kind) (y z : ℕ) (x : ℕ → ℕ) (n : ℕ) → FeatureIs k z x n → ((j : ℕ) → j ≤ n → FeatureWithin k y (x j)) → FeatureWithin k y z
is_greatest feature y z x n e h = within_trans (and_to_greatest x n h) (within_eq (sym e))
is_greatest feature_but28 y z x n e h = within_trans (and_to_greatest x n h) (within_eq (sym e))
is_greatest area y z x n e h = tt
is_greatest freed y z x n e h = tt
is_greatest other y z x n e h = tt

pub is_within : (k : Kind) (z : ℕ) (x : ℕ → ℕ) (n j : ℕ) → FeatureIs k z x n → j ≤ n → FeatureWithin k z (x j)
is_within feature z x n j e l = within_trans (within_eq e) (and_to_within x n j l)
is_within feature_but28 z x n j e l = within_trans (within_eq e) (and_to_within x n j l)
is_within area z x n j e l = tt
is_within freed z x n j e l = tt
is_within other z x n j e l = tt
