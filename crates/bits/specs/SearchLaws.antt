-- What `every` and `lowest` say, in words.
use Rattle.std.specs.Prelude.{◌≡◌, refl, Bool, true, false, ◌&&◌}
use Rattle.std.proofs.Common.{sym, ap, ◌∙◌, inl, inr, le_refl, eq-or-lt_of_le}
use Prim.Native.Nat.{ℕ, zero, suc, ◌+◌, ◌-◌, ◌≤◌, ◌<◌}
use Rattle.std.proofs.Math.Numerals.{add-one}
use native.Mathlib.Omega.{arith}
use Rattle.bits.specs.Choice.{pick}
use Rattle.bits.specs.ChoiceLaws.{never_both, and_left, and_right}
use Rattle.bits.specs.Search.{every, lowest}
use Rattle.bits.specs.Search.Failing.{at, none}

-- a computed test over all numbers below n holds at each
pub every_at : (test : ℕ → Bool) (n : ℕ) → every test n ≡ true → (i : ℕ) → i < n → test i ≡ true
every_at test zero e i h = absurd (omega arith)
every_at test (suc n) e i h =
    elim (eq-or-lt_of_le h) [
      | inl q ↦ ap test (omega arith) ∙ and_left (test n) (every test n) e
      | inr q ↦ every_at test n (and_right (test n) (every test n) e) i (omega arith)
    ]

-- of a test that not every number below n passes, one fails
pub every_fails : (test : ℕ → Bool) (n : ℕ) → every test n ≡ false → (i : ℕ) × (i < n) × (test i ≡ false)
every_fails test zero e = absurd (let z : ◌≡◌ {A = ℕ} 0 1 = cc in omega arith)
every_fails test (suc n) e = go (every_fails test n) (test n) refl e
  where
    go : (every test n ≡ false → (i : ℕ) × (i < n) × (test i ≡ false))
        → (b : Bool) → test n ≡ b → (b && every test n) ≡ false → (i : ℕ) × (i < suc n) × (test i ≡ false)
    go ih true p f = let (i, l, g) = ih f in (i, omega arith, g)
    go ih false p f = (n, omega arith, p)

-- nothing found: all pass
pub lowest_none : (test : ℕ → Bool) (k n : ℕ) → lowest test k n ≡ none → (j : ℕ) → k ≤ j → j < k + n → test j ≡ true
unfolding lowest
lowest_none test k zero e j l h = absurd (omega arith)
lowest_none test k (suc n) e j l h = go (lowest_none test (suc k) n) (test k) refl e
  where
    go : (lowest test (suc k) n ≡ none → (j : ℕ) → suc k ≤ j → j < suc k + n → test j ≡ true)
        → (b : Bool) → test k ≡ b → pick b (lowest test (suc k) n) (at k) ≡ none → test j ≡ true
    go ih true p f = elim (eq-or-lt_of_le l) [ inl q ↦ ap test (sym q) ∙ p | inr q ↦ ih f j q (omega arith) ]
    go ih false p f = cc

pub lowest_all : (test : ℕ → Bool) (k n : ℕ) → ((j : ℕ) → k ≤ j → j < k + n → test j ≡ true) → lowest test k n ≡ none
unfolding lowest
lowest_all test k zero f = refl
lowest_all test k (suc n) f = rw (f k (le_refl k) (omega arith)) (lowest_all test (suc k) n (λ j l h. f j (omega arith) (omega arith)))

-- j is the lowest of the n numbers from k that fails
pub record Lowest (test : ℕ → Bool) (k n j : ℕ) : Type 0 where
  pub from : k ≤ j
  pub below : j < k + n
  pub fails : test j ≡ false
  pub before : (i : ℕ) → k ≤ i → i < j → test i ≡ true

pub lowest_at : (test : ℕ → Bool) (k n j : ℕ) → lowest test k n ≡ at j → Lowest test k n j
unfolding lowest
lowest_at test k zero j e = absurd (let z : ◌≡◌ {A = ℕ} 0 1 = cc in omega arith)
lowest_at test k (suc n) j e = go (lowest_at test (suc k) n j) (test k) refl e
  where
    go : (lowest test (suc k) n ≡ at j → Lowest test (suc k) n j)
        → (b : Bool) → test k ≡ b → pick b (lowest test (suc k) n) (at k) ≡ at j → Lowest test k (suc n) j
    go ih true p f =
        let h : Lowest test (suc k) n j = ih f in
        record {
          from = omega arith;
          below = omega arith;
          fails = h.fails;
          before = λ i l u. elim (eq-or-lt_of_le l) [ inl q ↦ ap test (sym q) ∙ p | inr q ↦ h.before i q u ];
        }
    go ih false p f =
        let q : k ≡ j = cc in
        record { from = omega arith; below = omega arith; fails = ap test (sym q) ∙ p; before = λ i l u. absurd (omega arith) }

-- there is only one lowest
pub lowest_unique : {test : ℕ → Bool} {k n i j : ℕ} → Lowest test k n i → Lowest test k n j → i ≡ j
lowest_unique {test} {k} {n} {i} {j} p q =
    let a : ¬ (i < j) = λ h. never_both (q.before i p.from h) p.fails in
    let b : ¬ (j < i) = λ h. never_both (p.before j q.from h) q.fails in
    omega arith

-- the search in the terms of a loop that counts k up to n: a turn passes k, or stops there; past n nothing is found
module _ (test : ℕ → Bool) (n k : ℕ) where
  pub lowest_passes : k < n → test k ≡ true → lowest test k (n - k) ≡ lowest test (k + 1) (n - (k + 1))
  unfolding lowest
  lowest_passes l e = let s : n - k ≡ suc (n - (k + 1)) = omega arith in rw (s, add-one, lowest, e)

  pub lowest_stops : k < n → test k ≡ false → lowest test k (n - k) ≡ at k
  unfolding lowest
  lowest_stops l e = let s : n - k ≡ suc (n - (k + 1)) = omega arith in rw (s, lowest, e)

  pub lowest_ends : n ≤ k → lowest test k (n - k) ≡ none
  unfolding lowest
  lowest_ends l = let s : n - k ≡ 0 = omega arith in rw (s, lowest)
