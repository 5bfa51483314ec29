-- Where sets stand: each of lawful ones lies in the slice, and the part that the code cuts out of it is the server's set.
use Rattle.std.specs.Prelude.{◌≡◌, refl, Bool, true, false, List, ℕ, ◌+◌, ◌-◌, ◌≤◌, ◌<◌, eqb, leb, length, get_or, take, drop}
use Rattle.std.proofs.Common.{sym, ap, ◌∙◌, arith}
use borrow.Author.Tests.{leb-true, eqb-true, eqb-false, eq-eqb, ne_eqb, le-leb, lt-leb}
use Rattle.bits.specs.ChoiceLaws.{and_left, and_right}
use Rattle.pool.specs.Sets.{set_start, set_at, most_sets, lawful_sets}
use Rattle.pool.specs.SetsLaws.{set_of, start_first, start_next, start_up}

-- the first set begins the slice
pub first_set : (pages lengths : List ℕ) → take (get_or lengths 0 0 - 0) (drop 0 pages) ≡ set_at pages lengths 0
first_set pages lengths =
    let e : get_or lengths 0 0 ≡ 0 + get_or lengths 0 0 = omega arith in
    ap (λ (n : ℕ). take (n - 0) (drop 0 pages)) e ∙ set_of pages lengths 0 0 (sym (start_first lengths))

-- ---- 18

module _ (pages lengths : List ℕ) where
  pub too_few : length lengths < 2 → lawful_sets pages lengths ≡ false
  unfolding lawful_sets
  too_few h = rw (lt-leb 2 (length lengths) h)

  pub too_many_lem : 2 ≤ length lengths → most_sets < length lengths → lawful_sets pages lengths ≡ false
  unfolding lawful_sets
  too_many_lem l h = rw (le-leb 2 (length lengths) l, lt-leb (length lengths) most_sets h)

  sum_decides : 2 ≤ length lengths → length lengths ≤ most_sets → lawful_sets pages lengths ≡ eqb (set_start lengths (length lengths)) (length pages)
  unfolding lawful_sets
  sum_decides l h = rw (le-leb 2 (length lengths) l, le-leb (length lengths) most_sets h)

  -- a set that goes beyond the slice
  pub beyond : 2 ≤ length lengths → length lengths ≤ most_sets → (k : ℕ) → k < length lengths → length pages < set_start lengths (k + 1)
      → lawful_sets pages lengths ≡ false
  beyond l h k u b =
      sum_decides l h
      ∙ ne_eqb (set_start lengths (length lengths)) (length pages)
      (λ (e : set_start lengths (length lengths) ≡ length pages). omega (arith, e, start_up lengths (k + 1) (length lengths) (omega arith)))

  pub summed : 2 ≤ length lengths → length lengths ≤ most_sets → (left : ℕ) → left + set_start lengths (length lengths) ≡ length pages
      → eqb left 0 ≡ lawful_sets pages lengths
  summed l h left e = go (eqb left 0) refl ∙ sym (sum_decides l h)
    where
      go : (b : Bool) → eqb left 0 ≡ b → eqb left 0 ≡ eqb (set_start lengths (length lengths)) (length pages)
      go true p = p ∙ sym (eq-eqb (set_start lengths (length lengths)) (length pages) (omega (arith, eqb-true left 0 p, e)))
      go false p =
          p
          ∙ sym (ne_eqb (set_start lengths (length lengths)) (length pages)
          (λ (q : set_start lengths (length lengths) ≡ length pages). eqb-false left 0 p (omega (arith, q, e))))

  -- of lawful sets there are at least two, and each lies in the slice
  module _ (e : lawful_sets pages lengths ≡ true) where
    pub at_least_two : 2 ≤ length lengths
    unfolding lawful_sets
    at_least_two = leb-true 2 (length lengths) (and_left _ _ e)

    pub not_too_many : length lengths ≤ most_sets
    unfolding lawful_sets
    not_too_many = leb-true (length lengths) most_sets (and_left _ _ (and_right (leb 2 (length lengths)) _ e))

    pub sums_to_slice : set_start lengths (length lengths) ≡ length pages
    unfolding lawful_sets
    sums_to_slice = eqb-true _ _ (and_right (leb (length lengths) most_sets) _ (and_right (leb 2 (length lengths)) _ e))

    pub set_ends : (k : ℕ) → k < length lengths → set_start lengths k + get_or lengths k 0 ≤ length pages
    set_ends k l = omega (arith, sums_to_slice, start_next lengths k, start_up lengths (k + 1) (length lengths) (omega arith))
