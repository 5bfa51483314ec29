-- Laws of the compacted size: what one subleaf adds, the loop's turns, and that only the subleaves of the mask matter.
use Rattle.std.specs.Prelude.{◌≡◌, refl, Bool, true, false, ◌&&◌, ℕ, zero, suc, ◌+◌, ◌-◌, ◌^◌, ◌≤◌, ◌<◌, leb}
use Rattle.std.proofs.Common.{sym, ap, ◌∙◌, inl, inr, eq-or-lt_of_le, arith, leb-true}
use Rattle.std.specs.Int.Bits.{bit_and}
use Rattle.std.specs.Int.Count.{count_trailing_zeros}
use Rattle.bits.specs.ChoiceLaws.{and_left, and_right}
use Rattle.bits.specs.Bits.{has}
use Rattle.masking.specs.Place
use Rattle.table.specs.Rows.{Rows}
use Rattle.checks.specs.LowestLaws.{Left, Taken, left_taken, left_none}
use Rattle.guest_state.specs.Compact.{placed, compact_below, compact_size}
use Rattle.guest_state.specs.CompactLaws.{Placing, compact_next, compact_starts, placed_same, placed_unused}

-- no bit from k up to n: nothing is added
compact_stays : (m : Rows) (x k n : ℕ) → k ≤ n → ((j : ℕ) → k ≤ j → j < n → has j x ≡ false) → compact_below m x n ≡ compact_below m x k
unfolding compact_below
compact_stays m x k zero h f = let q : 0 ≡ k = omega arith in ap (compact_below m x) q
compact_stays m x k (suc n) h f =
    elim (eq-or-lt_of_le h) [
      | inl q ↦ sym (ap (compact_below m x) q)
      | inr q ↦ step (leb 2 n) (f n (omega arith) (omega arith)) ∙ compact_stays m x k n (omega arith) (λ j l u. f j l (omega arith))
    ]
  where
    step : (b : Bool) → has n x ≡ false → placed (b && has n x) (m (Place.extended_state n)).result (compact_below m x n) ≡ compact_below m x n
    step true e = sym (placed_unused _ _ e)
    step false e = sym (placed_unused _ _ refl)

module _ (m : Rows) (x : ℕ) where
  pub placing_starts : {rest : ℕ} → Left x rest 2 → Placing m x 576 rest
  placing_starts l = record { k = 2; low = omega arith; high = omega arith; area = compact_starts m x; most = omega arith; left = l }

  module _ {size rest : ℕ} (p : Placing m x size rest) where
    pub placing_small : size < 2 ^ 40
    placing_small = omega (arith, p.most, p.high)

    pub placing_taken : ¬ (rest ≡ 0) → Taken x rest p.k (count_trailing_zeros 64 rest)
    placing_taken e = left_taken p.left e

    pub placing_next : {s : ℕ} → ¬ (rest ≡ 0) → s ≡ placed true (m (Place.extended_state (count_trailing_zeros 64 rest))).result size → s ≤ size + 2 ^ 33
        → Placing m x s (bit_and rest (rest - 1))
    placing_next {s} n e l =
        let t : Taken x rest p.k (count_trailing_zeros 64 rest) = placing_taken n in
        record {
          k = count_trailing_zeros 64 rest + 1;
          low = omega (arith, t.from, p.low);
          high = omega (arith, t.inside);
          area = compact_next m x (count_trailing_zeros 64 rest) (omega (arith, t.from, p.low))
              (p.area ∙ sym (compact_stays m x p.k (count_trailing_zeros 64 rest) t.from t.between)) t.here e;
          most = omega (arith, p.most, t.from);
          left = t.next;
        }

    pub placing_ends : rest ≡ 0 → size ≡ compact_size m x
    placing_ends e = p.area ∙ sym (compact_stays m x p.k 64 p.high (λ j a b. left_none p.left e j a))

pub compact_same : (A B : Rows) (x n : ℕ)
    → ((k : ℕ) → 2 ≤ k → k < n → has k x ≡ true → (A (Place.extended_state k)).result ≡ (B (Place.extended_state k)).result)
    → compact_below A x n ≡ compact_below B x n
unfolding compact_below
compact_same A B x zero f = refl
compact_same A B x (suc k) f =
    ap (placed (leb 2 k && has k x) (A (Place.extended_state k)).result) (compact_same A B x k (λ j l u. f j l (omega arith)))
    ∙ placed_same (leb 2 k && has k x) (compact_below B x k) (λ e. f k (leb-true 2 k (and_left _ _ e)) (omega arith) (and_right (leb 2 k) _ e))
