-- The save area, as the loop over subleaves finds it: one turn grows it, and a mask with no bit left ends it.
use Rattle.std.specs.Prelude.{◌≡◌, refl, Bool, true, false, ◌&&◌, ℕ, zero, suc, ◌+◌, ◌-◌, ◌^◌, ◌≤◌, ◌<◌, max, ltb, leb, None, Some}
use Rattle.std.proofs.Common.{sym, ap, ◌∙◌, inl, inr, le_refl, le_trans, le_of_eq, eq-or-lt_of_le, add-one, arith, ltb-true, ltb-false, lt-ltb, le-ltb, le-leb}
use Rattle.std.specs.Int.Bits.{bit_and}
use Rattle.std.specs.Int.Count.{count_trailing_zeros}
use Rattle.bits.specs.Choice.{pick}
use Rattle.bits.specs.Bits.{has}
use Rattle.table.specs.Rows.{Rows}
use Rattle.checks.specs.ExtendedState.{sum_at, grown, area_below, save_area, size_of}
use Rattle.checks.specs.LowestLaws.{Left, Taken, left_taken, left_none}

area_up : (m : Rows) (x j n : ℕ) → j ≤ n → area_below m x j ≤ area_below m x n
unfolding area_below
area_up m x j zero h = let e : j ≡ 0 = omega arith in rw e (le_refl 576)
area_up m x j (suc n) h =
    elim (eq-or-lt_of_le h) [ inl q ↦ le_of_eq (ap (area_below m x) q) | inr q ↦ le_trans (area_up m x j n (omega arith)) (omega arith) ]

area_next : (m : Rows) (x k : ℕ) → 2 ≤ k → area_below m x (k + 1) ≡ grown (area_below m x k) (has k x) (sum_at m k)
unfolding area_below
area_next m x k l = rw (add-one, area_below, le-leb 2 k l)

-- no bit from k up to n: nothing is added
area_stays : (m : Rows) (x k n : ℕ) → k ≤ n → ((j : ℕ) → k ≤ j → j < n → has j x ≡ false) → area_below m x n ≡ area_below m x k
unfolding area_below
area_stays m x k zero h f = let q : 0 ≡ k = omega arith in ap (area_below m x) q
area_stays m x k (suc n) h f =
    elim (eq-or-lt_of_le h) [
      | inl q ↦ sym (ap (area_below m x) q)
      | inr q ↦ step (leb 2 n) (f n (omega arith) (omega arith)) ∙ area_stays m x k n (omega arith) (λ j l u. f j l (omega arith))
    ]
  where
    step : (b : Bool) → has n x ≡ false → grown (area_below m x n) (b && has n x) (sum_at m n) ≡ area_below m x n
    step true e = rw e (omega arith)
    step false e = omega arith

-- ---- the test against 2^32

pub size_bytes : (a v : ℕ) → Some v ≡ size_of a → (v ≡ a) × (v < 2 ^ 32)
unfolding size_of
size_bytes a v e = go (ltb a (2 ^ 32)) refl e
  where
    go : (b : Bool) → ltb a (2 ^ 32) ≡ b → Some v ≡ pick b (Some a) None → (v ≡ a) × (v < 2 ^ 32)
    go true f e = let p : v ≡ a = cc in (p, omega (arith, ltb-true a (2 ^ 32) f))
    go false f e = absurd (let z : ◌≡◌ {A = ℕ} 0 1 = cc in omega arith)

pub size_large : (a : ℕ) → None ≡ size_of a → 2 ^ 32 ≤ a
unfolding size_of
size_large a e = go (ltb a (2 ^ 32)) refl e
  where
    go : (b : Bool) → ltb a (2 ^ 32) ≡ b → None ≡ pick b (Some a) None → 2 ^ 32 ≤ a
    go true f e = absurd (let z : ◌≡◌ {A = ℕ} 0 1 = cc in omega arith)
    go false f e = ltb-false a (2 ^ 32) f

fits : (a : ℕ) → a < 2 ^ 32 → Some a ≡ size_of a
unfolding size_of
fits a h = rw (lt-ltb a (2 ^ 32) h)

exceeds : (a : ℕ) → 2 ^ 32 ≤ a → None ≡ size_of a
unfolding size_of
exceeds a h = rw (le-ltb a (2 ^ 32) h)

-- ---- one subleaf

module _ (n : ℕ) {used : Bool} (sum : ℕ) where
  pub grown_over : used ≡ true → 2 ^ 32 ≤ sum → None ≡ size_of (grown n used sum)
  grown_over e h = rw e (exceeds _ (omega arith))

  pub grown_to : used ≡ true → n ≤ sum → sum < 2 ^ 32 → Some sum ≡ size_of (grown n used sum)
  grown_to e l h = let m : sum ≡ max n sum = omega arith in rw (e, ← m) (fits sum h)

  pub grown_within : used ≡ true → sum ≤ n → n < 2 ^ 32 → Some n ≡ size_of (grown n used sum)
  grown_within e l h = let m : max n sum ≡ n = omega arith in rw (e, m) (fits n h)

  pub grown_unused : used ≡ false → n < 2 ^ 32 → Some n ≡ size_of (grown n used sum)
  grown_unused e h = let m : max n 0 ≡ n = omega arith in rw (e, m) (fits n h)

-- ---- the loop, at subleaf k with the area n so far

area_starts : (m : Rows) (x : ℕ) → ◌≡◌ {A = ℕ} 576 (area_below m x 2)
unfolding area_below
area_starts m x = refl

-- the bits of the mask from bit k up are left, and the area is that of the subleaves below k
pub record Growing (m : Rows) (x area rest : ℕ) : Type 0 where
  pub k : ℕ
  pub low : 2 ≤ k
  pub high : k ≤ 64
  pub below : area ≡ area_below m x k
  pub small : area < 2 ^ 32
  pub left : Left x rest k

module _ (m : Rows) (x : ℕ) where
  pub growing_starts : {rest : ℕ} → Left x rest 2 → Growing m x 576 rest
  growing_starts l = record { k = 2; low = omega arith; high = omega arith; below = area_starts m x; small = omega arith; left = l }

  module _ {area rest : ℕ} (p : Growing m x area rest) where
    module _ (n : ¬ (rest ≡ 0)) where
      abbrev z : ℕ
      z = count_trailing_zeros 64 rest

      pub growing_taken : Taken x rest p.k z
      growing_taken = left_taken p.left n

      two : 2 ≤ z
      two = omega (arith, growing_taken.from, p.low)

      -- the area with the subleaf that is taken
      more : grown area true (sum_at m z) ≡ area_below m x (z + 1)
      more =
          let e : area ≡ area_below m x z = p.below ∙ sym (area_stays m x p.k z growing_taken.from growing_taken.between) in
          sym (area_next m x z two ∙ rw (growing_taken.here, ← e))

      pub growing_next : {v : ℕ} → Some v ≡ size_of (grown area true (sum_at m z)) → Growing m x v (bit_and rest (rest - 1))
      growing_next {v} g =
          let h : (v ≡ _) × (v < 2 ^ 32) = size_bytes _ v g in
          record {
            k = z + 1;
            low = omega (arith, two);
            high = omega (arith, growing_taken.inside);
            below = h.0 ∙ more;
            small = h.1;
            left = growing_taken.next;
          }

      pub growing_overflows : None ≡ size_of (grown area true (sum_at m z)) → None ≡ size_of (save_area m x)
      growing_overflows g =
          exceeds _ (le_trans (size_large _ g) (le_trans (le_of_eq more) (area_up m x (z + 1) 64 (omega (arith, growing_taken.inside)))))

    pub growing_ends : rest ≡ 0 → Some area ≡ size_of (save_area m x)
    growing_ends e =
        fits area p.small
        ∙ ap size_of (p.below ∙ sym (area_stays m x p.k 64 p.high (λ j a b. left_none p.left e j a)))
