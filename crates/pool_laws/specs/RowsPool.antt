-- The pool of masked first entries beside each server's: its finished rows rise to every server's, and a further server adds nothing.
use Rattle.std.specs.Prelude.{◌≡◌, refl, Bool, true, false, ◌⊎◌, ℕ, zero, suc, ◌≤◌, ◌<◌}
use Rattle.std.proofs.Common.{sym, ap, ◌∙◌, subst, inl, inr, eq-or-lt_of_le, arith}
use Rattle.bits.specs.Bits.{has, Within}
use Rattle.bits.specs.BitsLaws.{within_refl, within_trans, within_eq, and_within_left, and_within_right}
use Rattle.x86defs.specs.declared.CpuidResult.{CpuidResult}
use Rattle.masking.specs.Kept.{places}
use Rattle.masking.specs.Place
use Rattle.table.specs.Rows.{Rows}
use Rattle.checks.specs.ExtendedState.{combined_mask}
use Rattle.finish.specs.Finish.{rule_at, finished}
use Rattle.finish.specs.Kinds.{Kind, Kinds, Registers, EntryAtLeast, TableAtLeast, kinds_at, from_entry}
use Rattle.finish.specs.Kinds.Kind.{feature, feature_but28, area, freed, other}
use Rattle.finish.specs.FeatureLaws.{clears_same}
use Rattle.finish.proofs.RemainsLaws.{finished_entry}
use Rattle.finish.specs.XsavesLaws.{XsavesEdx}
use Rattle.rise.specs.Rise.{EntryRises}
use Rattle.rise.specs.RowsRise.{registers_rise_lem, others_further}
use Rattle.register_masks.specs.Join.{joined_register, pooled_results, with_server, pool}
use Rattle.register_masks.specs.Alike.{Alike, AlikeAt, AllAlike, all_have}
use Rattle.register_masks.specs.Features.{FeatureWithin}
use Rattle.register_masks.specs.RegisterRunLaws.{all_of}
use Rattle.register_masks.specs.JoinedEntryLaws.{keeps_28, pooled_joined}
use Rattle.register_masks.specs.PoolLaws.{Servers, fewer_alike, pool_mask_greatest, pool_mask_within}
use Rattle.register_masks.proofs.PoolLaws.{pool_accepted}
use Rattle.register_masks.proofs.PoolLaws.{pool_rows_lem, in_each, in_pool, xsaves_first, like_next, pool_greatest, pool_within}

-- ---- entries

-- the join rises to the first and to the other where they are alike
to_first : (k : Kind) (a b : ℕ) → Alike k a b → EntryAtLeast k (joined_register k a b) a
to_first feature a b p = and_within_left a b
to_first feature_but28 a b p = (within_trans (within_eq (pooled_joined feature_but28 a b p)) (and_within_left a b), keeps_28 a b)
to_first area a b p = tt
to_first freed a b p = tt
to_first other a b p = refl

to_other : (k : Kind) (a b : ℕ) → Alike k a b → EntryAtLeast k (joined_register k a b) b
to_other feature a b p = and_within_right a b
to_other feature_but28 a b p = (within_trans (within_eq (pooled_joined feature_but28 a b p)) (and_within_right a b), keeps_28 a b ∙ p)
to_other area a b p = tt
to_other freed a b p = tt
to_other other a b p = p

to_itself : (k : Kind) (a : ℕ) → EntryAtLeast k a a
to_itself feature a = within_refl a
to_itself feature_but28 a = (within_refl a, refl)
to_itself area a = tt
to_itself freed a = tt
to_itself other a = refl

by_way_of : (k : Kind) (a b c : ℕ) → EntryAtLeast k a b → EntryAtLeast k b c → EntryAtLeast k a c
by_way_of feature a b c p q = within_trans p q
by_way_of feature_but28 a b c p q = (within_trans p.0 q.0, p.1 ∙ q.1)
by_way_of area a b c p q = tt
by_way_of freed a b c p q = tt
by_way_of other a b c p q = p ∙ q

all_to_itself : (k : Kinds) (a : CpuidResult) → Registers EntryAtLeast k a a
all_to_itself k a = record {
  eax = to_itself k.eax a.eax;
  ebx = to_itself k.ebx a.ebx;
  ecx = to_itself k.ecx a.ecx;
  edx = to_itself k.edx a.edx;
}

all_to_other : (k : Kinds) (a b : CpuidResult) → Registers Alike k a b → Registers EntryAtLeast k (pooled_results k a b) b
all_to_other k a b p = record {
  eax = to_other k.eax _ _ p.eax;
  ebx = to_other k.ebx _ _ p.ebx;
  ecx = to_other k.ecx _ _ p.ecx;
  edx = to_other k.edx _ _ p.edx;
}

all_to_first : (k : Kinds) (a b c : CpuidResult) → Registers Alike k a b → Registers EntryAtLeast k a c
    → Registers EntryAtLeast k (pooled_results k a b) c
all_to_first k a b c p q = record {
  eax = by_way_of k.eax _ _ _ (to_first k.eax _ _ p.eax) q.eax;
  ebx = by_way_of k.ebx _ _ _ (to_first k.ebx _ _ p.ebx) q.ebx;
  ecx = by_way_of k.ecx _ _ _ (to_first k.ecx _ _ p.ecx) q.ecx;
  edx = by_way_of k.edx _ _ _ (to_first k.edx _ _ p.edx) q.edx;
}

entry_rises : (f : ℕ → Rows) (n i : ℕ) → AlikeAt f n i → (k : ℕ) → k ≤ n → Registers EntryAtLeast (kinds_at i) (pool f n i).result (f k i).result
unfolding pool with_server
entry_rises f zero i a k l =
    let e : 0 ≡ k = omega arith in
    subst (λ (j : ℕ). Registers EntryAtLeast (kinds_at i) (f 0 i).result (f j i).result) e (all_to_itself (kinds_at i) (f 0 i).result)
entry_rises f (suc n) i a k l =
    elim (eq-or-lt_of_le l) [
      | inl q ↦ subst (λ (j : ℕ). Registers EntryAtLeast (kinds_at i) (with_server (pool f n) (f (suc n)) i).result (f j i).result) (sym q)
          (all_to_other (kinds_at i) (pool f n i).result (f (suc n) i).result (like_next f n i a))
      | inr q ↦ all_to_first (kinds_at i) (pool f n i).result (f (suc n) i).result (f k i).result (like_next f n i a)
          (entry_rises f n i (fewer_alike f n i a) k (omega arith))
    ]

-- ---- the table

module _ (edition : ℕ) (f : ℕ → Rows) (n : ℕ) (s : Servers f n) (z : (k : ℕ) → XsavesEdx (f k)) (alike : AllAlike edition f n) (k : ℕ) (l : k ≤ n) where
  entries : (i : ℕ) → i < places → from_entry (rule_at i) ≡ true → (finished edition (pool f n) i).present ≡ true → EntryRises i (pool f n i) (f k i)
  unfolding all_have
  entries i u e p = record {
    present = finished_entry edition (f k) i u e (in_each edition f n s i u p k l);
    registers = entry_rises f n i (alike i u (all_of (λ j. (finished edition (f j) i).present) n (in_each edition f n s i u p))) k l;
  }

  -- every row of the pool's, with at least its features, a save area no smaller, all else equal
  pub pool_rises : (i : ℕ) → i < places → (finished edition (pool f n) i).present ≡ true
      → Registers TableAtLeast (kinds_at i) (finished edition (pool f n) i).result (finished edition (f k) i).result
  pool_rises = registers_rise_lem edition edition (clears_same refl) (pool f n) (f k) (xsaves_first f n (z 0)) (z k) (pool_accepted f n s) entries

  -- beyond these only the Dh subleaves of further mask bits
  pub pool_further : (i : ℕ) → i < places → (finished edition (f k) i).present ≡ true
      → ((finished edition (pool f n) i).present ≡ true)
      ⊎ ((j : ℕ) × (i ≡ Place.extended_state j) × (2 ≤ j) × (j < 64) × (has j (combined_mask (f k)) ≡ true) × (has j (combined_mask (pool f n)) ≡ false))
  pool_further = others_further edition edition (clears_same refl) (pool f n) (f k) (xsaves_first f n (z 0)) (z k) (pool_accepted f n s) entries

-- ---- one server more

-- each server of the first pool is one of the second's
pub record PoolAmong (f : ℕ → Rows) (n : ℕ) (g : ℕ → Rows) (m : ℕ) : Type 0 where
  pub place : (k : ℕ) → k ≤ n → ℕ
  pub below : (k : ℕ) (l : k ≤ n) → place k l ≤ m
  pub same : (k : ℕ) (l : k ≤ n) → g (place k l) ≡ f k

module _ (edition : ℕ) (f : ℕ → Rows) (n : ℕ) (s : Servers f n) (g : ℕ → Rows) (m : ℕ) (t : Servers g m) (among : PoolAmong f n g m) where
  pub no_row_more : (i : ℕ) → i < places → (finished edition (pool g m) i).present ≡ true → (finished edition (pool f n) i).present ≡ true
  no_row_more i l e =
      in_pool edition f n s i l
      (λ k u. subst (λ (r : Rows). (finished edition r i).present ≡ true) (among.same k u)
      (in_each edition g m t i l e (among.place k u) (among.below k u)))

  pub no_mask_bit_more : Within (combined_mask (pool g m)) (combined_mask (pool f n))
  no_mask_bit_more =
      pool_mask_greatest f n s _
      (λ k u. subst (λ (r : Rows). Within (combined_mask (pool g m)) (combined_mask r)) (among.same k u)
      (pool_mask_within g m t (among.place k u) (among.below k u)))

  pub no_feature_more : AllAlike edition f n → AllAlike edition g m → (i : ℕ) → i < places
      → Registers FeatureWithin (kinds_at i) (finished edition (pool g m) i).result (finished edition (pool f n) i).result
  no_feature_more a b i l =
      pool_greatest edition f n s a i l _
      (λ k u. subst (λ (r : Rows). Registers FeatureWithin (kinds_at i) (finished edition (pool g m) i).result (finished edition r i).result)
      (among.same k u) (pool_within edition g m t b i l (among.place k u) (among.below k u)))
