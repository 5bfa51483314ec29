-- A pool of servers 0 to n, each accepted by itself: the pool is accepted, 19 due or not; its rows are those that all tables have; where 19
-- is not due its feature registers are the and of the servers', the greatest lower bound.
use Rattle.std.specs.Prelude.{◌≡◌, Bool, true, ◌&&◌, Ok}
use Rattle.std.proofs.Math.Path.{refl, ap}
use Rattle.std.proofs.Common.{sym, ◌∙◌, le_refl}
use Prim.Native.Nat.{ℕ, zero, suc, ◌≤◌, ◌<◌}
use Rattle.x86defs.specs.declared.CpuidResult.{CpuidResult}
use Rattle.masking.specs.Kept.{places, kept_leaves, slot}
use Rattle.masking.specs.Place
use Rattle.table.specs.Rows.{Rows}
use Rattle.checks.specs.Checks.{rows_verdict}
use Rattle.finish.specs.Finish.{rule_at, finished}
use Rattle.finish.specs.Kinds.{Registers, register_kinds, kinds_at}
use Rattle.finish.specs.PlaceLaws.{always}
use Rattle.finish.specs.XsavesLaws.{XsavesEdx}
use Rattle.register_masks.specs.Join.{with_server, pool, all_to}
use Rattle.register_masks.specs.Alike.{Alike, AlikeAt, AllAlike, all_have}
use Rattle.register_masks.specs.Features.{FeaturesAre, FeatureWithin}
use Rattle.register_masks.specs.RegisterRunLaws.{all_at, all_of}
use Rattle.register_masks.specs.JoinedEntryLaws.{registers_refl, registers_both}
use Rattle.register_masks.proofs.JoinedLaws.{with_accepted, required_in, present_with, features_with}
use Rattle.register_masks.specs.PoolLaws.{Servers, fewer}
use Rattle.register_masks.proofs.JoinedEntryLaws.{registers_pooled}
use Rattle.register_masks.specs.PoolLaws.{Servers, feature_first, feature_next, fewer, fewer_alike, is_greatest, is_within, pool_masked}

-- ---- accepted, and its mask, 19 or not

pub pool_accepted : (f : ℕ → Rows) (n : ℕ) → Servers f n → rows_verdict (pool f n) ≡ Ok tt
unfolding pool
pool_accepted f zero s = s.accepted 0 (le_refl 0)
pool_accepted f (suc n) s = with_accepted (pool f n) (f (suc n)) (pool_accepted f n (fewer f n s)) (s.accepted (suc n) (le_refl (suc n)))

-- ---- all else is the first's

pub like_first : (f : ℕ → Rows) (n i : ℕ) → Registers Alike (kinds_at i) (f 0 i).result (pool f n i).result
unfolding pool with_server
like_first f zero i = registers_refl (kinds_at i) (f 0 i).result
like_first f (suc n) i = registers_pooled (kinds_at i) (f (suc n) i).result (like_first f n i)

pub xsaves_first : (f : ℕ → Rows) (n : ℕ) → XsavesEdx (f 0) → XsavesEdx (pool f n)
unfolding kinds_at register_kinds slot kept_leaves
xsaves_first f n z = sym (like_first f n (Place.extended_state 1)).edx ∙ z

-- the next server's entry is like the pool's so far
pub like_next : (f : ℕ → Rows) (n i : ℕ) → AlikeAt f (suc n) i → Registers Alike (kinds_at i) (pool f n i).result (f (suc n) i).result
like_next f n i a = registers_both (kinds_at i) (like_first f n i) (a.with (suc n) (le_refl (suc n)))

module _ (edition : ℕ) where
  -- the rows, Dh subleaves among them, are those that all tables have
  pub pool_rows_lem : (f : ℕ → Rows) (n : ℕ) → Servers f n → (i : ℕ) → i < places → (finished edition (pool f n) i).present ≡ all_have edition f n i
  unfolding pool all_have all_to
  pool_rows_lem f zero s i l = refl
  pool_rows_lem f (suc n) s i l =
      present_with edition (pool f n) (f (suc n)) (pool_accepted f n (fewer f n s)) (s.accepted (suc n) (le_refl (suc n)))
      (pool_masked f n (fewer f n s)) (s.masked (suc n) (le_refl (suc n))) i l
      ∙ ap (λ (b : Bool). b && (finished edition (f (suc n)) i).present) (pool_rows_lem f n (fewer f n s) i l)

  pub in_each : (f : ℕ → Rows) (n : ℕ) → Servers f n → (i : ℕ) → i < places → (finished edition (pool f n) i).present ≡ true
      → (k : ℕ) → k ≤ n → (finished edition (f k) i).present ≡ true
  unfolding all_have
  in_each f n s i l e = all_at (λ k. (finished edition (f k) i).present) n (sym (pool_rows_lem f n s i l) ∙ e)

  pub in_pool : (f : ℕ → Rows) (n : ℕ) → Servers f n → (i : ℕ) → i < places → ((k : ℕ) → k ≤ n → (finished edition (f k) i).present ≡ true)
      → (finished edition (pool f n) i).present ≡ true
  unfolding all_have
  in_pool f n s i l h = pool_rows_lem f n s i l ∙ all_of (λ k. (finished edition (f k) i).present) n h

  -- ---- feature registers are the and of the servers'

  features_at : (f : ℕ → Rows) (n : ℕ) → Servers f n → (i : ℕ) → i < places → (always (rule_at i) ≡ true → AlikeAt f n i)
      → FeaturesAre (kinds_at i) (finished edition (pool f n) i).result (λ k. (finished edition (f k) i).result) n
  unfolding pool
  features_at f zero s i l a = record {
    eax = feature_first (kinds_at i).eax (λ j. (finished edition (f j) i).result.eax);
    ebx = feature_first (kinds_at i).ebx (λ j. (finished edition (f j) i).result.ebx);
    ecx = feature_first (kinds_at i).ecx (λ j. (finished edition (f j) i).result.ecx);
    edx = feature_first (kinds_at i).edx (λ j. (finished edition (f j) i).result.edx);
  }
  features_at f (suc n) s i l a =
      let h = features_at f n (fewer f n s) i l (λ e. fewer_alike f n i (a e)) in
      let j = features_with edition (pool f n) (f (suc n)) (pool_accepted f n (fewer f n s)) (s.accepted (suc n) (le_refl (suc n))) i l (λ e. like_next f n i (a e)) in
      record {
        eax = feature_next (kinds_at i).eax _ _ (λ j. (finished edition (f j) i).result.eax) n j.eax h.eax;
        ebx = feature_next (kinds_at i).ebx _ _ (λ j. (finished edition (f j) i).result.ebx) n j.ebx h.ebx;
        ecx = feature_next (kinds_at i).ecx _ _ (λ j. (finished edition (f j) i).result.ecx) n j.ecx h.ecx;
        edx = feature_next (kinds_at i).edx _ _ (λ j. (finished edition (f j) i).result.edx) n j.edx h.edx;
      }

  pub pool_features : (f : ℕ → Rows) (n : ℕ) → Servers f n → AllAlike edition f n → (i : ℕ) → i < places
      → FeaturesAre (kinds_at i) (finished edition (pool f n) i).result (λ k. (finished edition (f k) i).result) n
  unfolding all_have
  pool_features f n s a i l =
      features_at f n s i l (λ e. a i l (all_of (λ k. (finished edition (f k) i).present) n (λ k u. required_in edition (f k) (s.accepted k u) i l e)))

  -- ---- greatest lower bound

  -- any registers whose features lie within every server's have none beyond the pool's; likewise any mask
  pub pool_greatest : (f : ℕ → Rows) (n : ℕ) → Servers f n → AllAlike edition f n → (i : ℕ) → i < places → (y : CpuidResult)
      → ((k : ℕ) → k ≤ n → Registers FeatureWithin (kinds_at i) y (finished edition (f k) i).result)
      → Registers FeatureWithin (kinds_at i) y (finished edition (pool f n) i).result
  pool_greatest f n s a i l y h =
      let p = pool_features f n s a i l in
      record {
        eax = is_greatest (kinds_at i).eax _ _ (λ j. (finished edition (f j) i).result.eax) n p.eax (λ k u. (h k u).eax);
        ebx = is_greatest (kinds_at i).ebx _ _ (λ j. (finished edition (f j) i).result.ebx) n p.ebx (λ k u. (h k u).ebx);
        ecx = is_greatest (kinds_at i).ecx _ _ (λ j. (finished edition (f j) i).result.ecx) n p.ecx (λ k u. (h k u).ecx);
        edx = is_greatest (kinds_at i).edx _ _ (λ j. (finished edition (f j) i).result.edx) n p.edx (λ k u. (h k u).edx);
      }

  pub pool_within : (f : ℕ → Rows) (n : ℕ) → Servers f n → AllAlike edition f n → (i : ℕ) → i < places → (k : ℕ) → k ≤ n
      → Registers FeatureWithin (kinds_at i) (finished edition (pool f n) i).result (finished edition (f k) i).result
  pool_within f n s a i l k u =
      let p = pool_features f n s a i l in
      record {
        eax = is_within (kinds_at i).eax _ (λ j. (finished edition (f j) i).result.eax) n k p.eax u;
        ebx = is_within (kinds_at i).ebx _ (λ j. (finished edition (f j) i).result.ebx) n k p.ebx u;
        ecx = is_within (kinds_at i).ecx _ (λ j. (finished edition (f j) i).result.ecx) n k p.ecx u;
        edx = is_within (kinds_at i).edx _ (λ j. (finished edition (f j) i).result.edx) n k p.edx u;
      }
