-- The lowest bit of a number: where it stands, by the zeros below it, and the number without it. So a loop takes the bits of a mask one by one.
use Rattle.std.specs.Prelude.{◌≡◌, refl, Bool, true, false, ℕ, zero, suc, ◌+◌, ◌-◌, ◌*◌, ◌/◌, ◌%◌, ◌^◌, ◌≤◌, ◌<◌, min, eqb, leb}
use Rattle.std.proofs.Common.{sym, ap, ◌∙◌, arith, pow_mono, eqb-true, leb-true, leb-false, le-leb}
use Rattle.std.proofs.Math.Nat.{div-eq_of_lt}
use Rattle.std.specs.Int.Bits.{bit_and, and_step, and_self}
use Rattle.std.proofs.lemmas.Nat.{and_le_l, and_le_r}
use Rattle.std.specs.Int.Count.{count_trailing_zeros, under}
use Rattle.bits.specs.Choice.{pick}
use Rattle.bits.specs.ChoiceLaws.{pick_true, pick_false}
use Rattle.bits.specs.Bits.{bit, has}
use Rattle.bits.specs.BitsLaws.{bit_lt, bit_and_lem, bit_zero, bit_suc, zero_bit, bit_has, bit_has_not}
use Rattle.bits.specs.SearchLaws.{every_at}

-- bit z of n is its lowest, and n ∧ (n - 1) has all others
record Lowest (n z : ℕ) : Type 0 where
  pub shown : bit z n ≡ 1
  pub below : (j : ℕ) → j < z → bit j n ≡ 0
  pub gone : (j : ℕ) → j ≤ z → bit j (bit_and n (n - 1)) ≡ 0
  pub above : (j : ℕ) → z < j → bit j (bit_and n (n - 1)) ≡ bit j n

odd : (n : ℕ) → n % 2 ≡ 1 → Lowest n 0
odd n e =
    let q : (n - 1) / 2 ≡ n / 2 = omega arith in
    let r : (n - 1) % 2 ≡ 0 = omega arith in
    let c : bit_and n (n - 1) ≡ n / 2 * 2 = and_step n (n - 1) ∙ rw (q, r, e, and_self (n / 2)) (omega arith) in
    record {
      shown = bit_zero n ∙ e;
      below = λ j h. absurd (omega arith);
      gone = λ j h. let z : j ≡ 0 = omega arith in rw (z, c) (bit_zero (n / 2 * 2) ∙ omega arith);
      above = above c;
    }
  where
    above : bit_and n (n - 1) ≡ n / 2 * 2 → (j : ℕ) → 0 < j → bit j (bit_and n (n - 1)) ≡ bit j n
    above c zero h = absurd (omega arith)
    above c (suc j) h =
        let d : n / 2 * 2 / 2 ≡ n / 2 = omega arith in
        ap (bit (suc j)) c ∙ bit_suc j (n / 2 * 2) ∙ ap (bit j) d ∙ sym (bit_suc j n)

even : (n z : ℕ) → ¬ (n ≡ 0) → n % 2 ≡ 0 → Lowest (n / 2) z → Lowest n (suc z)
even n z p e l = record { shown = bit_suc z n ∙ l.shown; below = below; gone = gone; above = above }
  where
    half : bit_and n (n - 1) / 2 ≡ bit_and (n / 2) (n / 2 - 1)
    half =
        let q : (n - 1) / 2 ≡ n / 2 - 1 = omega arith in
        let s : bit_and n (n - 1) ≡ bit_and (n / 2) (n / 2 - 1) * 2 + min (n % 2) ((n - 1) % 2) = rw (← q) (and_step n (n - 1)) in
        omega (arith, s)

    last : bit_and n (n - 1) % 2 ≡ 0
    last = omega (arith, and_step n (n - 1))

    below : (j : ℕ) → j < suc z → bit j n ≡ 0
    below zero h = bit_zero n ∙ e
    below (suc j) h = bit_suc j n ∙ l.below j (omega arith)

    gone : (j : ℕ) → j ≤ suc z → bit j (bit_and n (n - 1)) ≡ 0
    gone zero h = bit_zero (bit_and n (n - 1)) ∙ last
    gone (suc j) h = bit_suc j (bit_and n (n - 1)) ∙ ap (bit j) half ∙ l.gone j (omega arith)

    above : (j : ℕ) → suc z < j → bit j (bit_and n (n - 1)) ≡ bit j n
    above zero h = absurd (omega arith)
    above (suc j) h = bit_suc j (bit_and n (n - 1)) ∙ ap (bit j) half ∙ l.above j (omega arith) ∙ sym (bit_suc j n)

lowest : (k n : ℕ) → ¬ (n ≡ 0) → n < 2 ^ k → Lowest n (count_trailing_zeros k n)
unfolding count_trailing_zeros
lowest zero n p h = absurd (p (omega arith))
lowest (suc k) n p h = go (n % 2) refl (lowest k (n / 2))
  where
    go : (d : ℕ) → n % 2 ≡ d → (¬ (n / 2 ≡ 0) → n / 2 < 2 ^ k → Lowest (n / 2) (count_trailing_zeros k (n / 2)))
        → Lowest n (under d (count_trailing_zeros k (n / 2)))
    go zero e l = even n (count_trailing_zeros k (n / 2)) p e (l (λ q. p (omega arith)) (omega arith))
    go (suc d) e l = odd n (omega arith)

-- ---- what is left of a mask x: its bits from k up

pub record Left (x n k : ℕ) : Type 0 where
  pub past : (j : ℕ) → j < k → bit j n ≡ 0
  pub left : (j : ℕ) → k ≤ j → bit j n ≡ bit j x
  pub fits : n < 2 ^ 64

-- a bit past the last
no_bit : (x j : ℕ) → x < 2 ^ 64 → 64 ≤ j → bit j x ≡ 0
unfolding bit
no_bit x j h l = ap (λ (n : ℕ). n % 2) (div-eq_of_lt (omega (arith, pow_mono l)))

-- all bits from 2 up, of 64
abbrev from2 : ℕ
from2 = 0xFFFFFFFFFFFFFFFC

from2_bit : (j : ℕ) → j < 64 → bit j from2 ≡ pick (leb 2 j) 1 0
unfolding bit
from2_bit j h = eqb-true _ _ (every_at (λ i. eqb (bit i from2) (pick (leb 2 i) 1 0)) 64 refl j h)

pub left_starts : (x : ℕ) → x < 2 ^ 64 → Left x (bit_and x from2) 2
left_starts x h = record { past = λ j l. past j l (leb 2 j) refl; left = λ j l. left j l (leb 64 j) refl; fits = omega (arith, and_le_l x from2) }
  where
    past : (j : ℕ) → j < 2 → (b : Bool) → leb 2 j ≡ b → bit j (bit_and x from2) ≡ 0
    past j l true e = absurd (omega (arith, leb-true 2 j e))
    past j l false e =
        let z : bit j from2 ≡ 0 = from2_bit j (omega arith) ∙ pick_false _ _ e in
        omega (arith, bit_and_lem j x from2, z)

    left : (j : ℕ) → 2 ≤ j → (b : Bool) → leb 64 j ≡ b → bit j (bit_and x from2) ≡ bit j x
    left j l true e = omega (arith, bit_and_lem j x from2, no_bit x j h (leb-true 64 j e))
    left j l false e =
        let o : bit j from2 ≡ 1 = from2_bit j (omega (arith, leb-false 64 j e)) ∙ pick_true _ _ (le-leb 2 j l) in
        omega (arith, bit_and_lem j x from2, o, bit_lt j x)

-- a turn takes bit z, the lowest
pub record Taken (x n k z : ℕ) : Type 0 where
  pub from : k ≤ z
  pub inside : z < 64
  pub here : has z x ≡ true
  pub between : (j : ℕ) → k ≤ j → j < z → has j x ≡ false
  pub next : Left x (bit_and n (n - 1)) (z + 1)

pub left_taken : {x n k : ℕ} → Left x n k → ¬ (n ≡ 0) → Taken x n k (count_trailing_zeros 64 n)
left_taken {x} {n} {k} p e = go (count_trailing_zeros 64 n) (lowest 64 n e p.fits)
  where
    go : (z : ℕ) → Lowest n z → Taken x n k z
    go z w =
        let from : k ≤ z = at_least (λ l. let q : ◌≡◌ {A = ℕ} 0 1 = sym (p.past z l) ∙ w.shown in omega arith) in
        record {
          from = from;
          inside = below (λ l. let q : ◌≡◌ {A = ℕ} 0 1 = sym (no_bit n z p.fits l) ∙ w.shown in omega arith);
          here = bit_has z x (sym (p.left z from) ∙ w.shown);
          between = λ j a b. bit_has_not j x (sym (p.left j a) ∙ w.below j b);
          next = record {
            past = λ j a. w.gone j (omega arith);
            left = λ j a. w.above j (omega arith) ∙ p.left j (omega (arith, from));
            fits = omega (arith, p.fits, and_le_l n (n - 1));
          };
        }
      where
        at_least : ¬ (z < k) → k ≤ z
        at_least f = omega arith

        below : ¬ (64 ≤ z) → z < 64
        below f = omega arith

-- and there are fewer
pub left_falls : (n : ℕ) → ¬ (n ≡ 0) → bit_and n (n - 1) < n
left_falls n e = omega (arith, and_le_r n (n - 1))

pub left_none : {x n k : ℕ} → Left x n k → n ≡ 0 → (j : ℕ) → k ≤ j → has j x ≡ false
left_none {x} p e j a = bit_has_not j x (sym (p.left j a) ∙ ap (bit j) e ∙ zero_bit j)
