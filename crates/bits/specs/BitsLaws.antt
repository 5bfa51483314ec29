-- Laws of bits, of fields and of "at least".
use Rattle.std.specs.Prelude.{◌≡◌, refl, Bool, true, false, ◌&&◌, ℕ, suc, ◌+◌, ◌-◌, ◌/◌, ◌%◌, ◌^◌, ◌≤◌, ◌<◌, min, max, eqb}
use Rattle.std.proofs.Common.{sym, ap, ◌∙◌, subst, le_refl, le_trans, le_of_eq, mod-lt, zero-lt-suc, arith, eq-eqb, ne_eqb, eqb-true}
use Rattle.std.proofs.Math.Nat.{zero-div}
use Rattle.std.proofs.Math.Arith.{bin_ind}
use lib.Pow.{shr-shr}
use Rattle.std.specs.Int.Bits.{bit_and, bit_or, and_step, or_step, and_zero_l}
use Rattle.std.proofs.lemmas.Nat.{and_shr, or_shr, and_le_r, and_mask}
use Rattle.std.proofs.lemmas.Bool.{eqb-false}
use Rattle.bits.specs.Bits.{bit, has, field, clear, clear_unless, Within}

-- ---- single bits

pub bit_lt : (k n : ℕ) → bit k n < 2
unfolding bit
bit_lt k n = mod-lt (n / 2 ^ k) (zero-lt-suc 1)

pub bit_and_lem : (k a b : ℕ) → bit k (bit_and a b) ≡ min (bit k a) (bit k b)
unfolding bit
bit_and_lem k a b = rw (and_shr) (omega (arith, and_step (a / 2 ^ k) (b / 2 ^ k)))

pub bit_or_lem : (k a b : ℕ) → bit k (bit_or a b) ≡ max (bit k a) (bit k b)
unfolding bit
bit_or_lem k a b = rw (or_shr) (omega (arith, or_step (a / 2 ^ k) (b / 2 ^ k)))

pub bit_zero : (n : ℕ) → bit 0 n ≡ n % 2
unfolding bit
bit_zero n = omega arith

pub bit_shr : (k j n : ℕ) → bit j (n / 2 ^ k) ≡ bit (k + j) n
unfolding bit
bit_shr k j n = ap (λ (x : ℕ). x % 2) (shr-shr n k j)

pub bit_suc : (k n : ℕ) → bit (suc k) n ≡ bit k (n / 2)
bit_suc k n = ap (λ (x : ℕ). bit x n) (omega arith) ∙ sym (bit_shr 1 k n)

pub zero_bit : (k : ℕ) → bit k 0 ≡ 0
unfolding bit
zero_bit k = ap (λ (x : ℕ). x % 2) (zero-div (2 ^ k))

join : (n b : ℕ) → n / 2 ≡ b / 2 → n % 2 ≡ b % 2 → n ≡ b
join n b p q = omega arith

none_set : (b : ℕ) → ((k : ℕ) → bit k b ≡ 0) → b ≡ 0
none_set =
    bin_ind (λ (n : ℕ). ((k : ℕ) → bit k n ≡ 0) → n ≡ 0) (λ h. refl)
    (λ n ih h. join n 0 (ih (λ k. sym (bit_suc k n) ∙ h (suc k))) (sym (bit_zero n) ∙ h 0))

-- numbers with the same bits are equal
pub bits_ext : (a b : ℕ) → ((k : ℕ) → bit k a ≡ bit k b) → a ≡ b
bits_ext a =
    bin_ind (λ (n : ℕ). (b : ℕ) → ((k : ℕ) → bit k n ≡ bit k b) → n ≡ b) (λ b h. sym (none_set b (λ k. sym (h k) ∙ zero_bit k)))
    (λ n ih b h. join n b (ih (b / 2) (λ k. sym (bit_suc k n) ∙ h (suc k) ∙ bit_suc k b)) (sym (bit_zero n) ∙ h 0 ∙ bit_zero b)) a

-- a bit by shift and mask, as code cuts it out
pub has_shift_mask : (k n : ℕ) → eqb (bit_and (n / 2 ^ k) 1) 1 ≡ has k n
unfolding has bit
has_shift_mask k n = ap (λ (x : ℕ). eqb x 1) (and_mask (n / 2 ^ k) 1)

pub has_bit : (k n : ℕ) → has k n ≡ true → bit k n ≡ 1
unfolding has
has_bit k n e = eqb-true (bit k n) 1 e

pub has_not : (k n : ℕ) → has k n ≡ false → bit k n ≡ 0
unfolding has
has_not k n e = let h : bit k n ≡ 1 → ⊥ = eqb-false (bit k n) 1 e in omega (arith, bit_lt k n, h)

pub bit_has : (k n : ℕ) → bit k n ≡ 1 → has k n ≡ true
unfolding has
bit_has k n e = eq-eqb (bit k n) 1 e

pub bit_has_not : (k n : ℕ) → bit k n ≡ 0 → has k n ≡ false
unfolding has
bit_has_not k n e = ne_eqb (bit k n) 1 (λ f. omega arith)

-- ---- fields, tied to shift and mask

pub field_shift_mask : (k w n : ℕ) → field k w n ≡ bit_and (n / 2 ^ k) (2 ^ w - 1)
unfolding field
field_shift_mask k w n = sym (and_mask (n / 2 ^ k) w)

pub field_lt : (k w n : ℕ) → field k w n < 2 ^ w
unfolding field
field_lt k w n = mod-lt (n / 2 ^ k) (lib.Pow.pow_pos w)

-- ---- at least

pub within_refl : (a : ℕ) → Within a a
within_refl a = record { at = λ k. le_refl (bit k a) }

pub within_eq : {a b : ℕ} → a ≡ b → Within a b
within_eq {a} {b} e = subst (λ (x : ℕ). Within a x) e (within_refl a)

pub within_trans : {a b c : ℕ} → Within a b → Within b c → Within a c
within_trans h g = record { at = λ k. le_trans (h.at k) (g.at k) }

-- "at least" as one equation, which numerals decide by computation
pub within_of_and : {a b : ℕ} → bit_and a b ≡ a → Within a b
within_of_and {a} {b} e = record { at = λ k. omega (arith, bit_and_lem k a b, ap (bit k) e) }

pub and_of_within : {a b : ℕ} → Within a b → bit_and a b ≡ a
and_of_within {a} {b} h = bits_ext _ _ (λ k. omega (arith, bit_and_lem k a b, h.at k))

pub within_antisym : {a b : ℕ} → Within a b → Within b a → a ≡ b
within_antisym {a} {b} h g = bits_ext a b (λ k. omega (arith, h.at k, g.at k))

pub within_zero : (b : ℕ) → Within 0 b
within_zero b = within_of_and (and_zero_l b)

pub within_and : {a b m n : ℕ} → Within a b → Within m n → Within (bit_and a m) (bit_and b n)
within_and {a} {b} {m} {n} h g = record { at = λ k. omega (arith, bit_and_lem k a m, bit_and_lem k b n, h.at k, g.at k) }

pub within_or : {a b m n : ℕ} → Within a b → Within m n → Within (bit_or a m) (bit_or b n)
within_or {a} {b} {m} {n} h g = record { at = λ k. omega (arith, bit_or_lem k a m, bit_or_lem k b n, h.at k, g.at k) }

pub and_within_left : (a m : ℕ) → Within (bit_and a m) a
and_within_left a m = record { at = λ k. omega (arith, bit_and_lem k a m) }

pub and_within_right : (a m : ℕ) → Within (bit_and a m) m
and_within_right a m = record { at = λ k. omega (arith, bit_and_lem k a m) }

pub or_within_left : (a b : ℕ) → Within a (bit_or a b)
or_within_left a b = record { at = λ k. omega (arith, bit_or_lem k a b) }

pub or_within_right : (a b : ℕ) → Within b (bit_or a b)
or_within_right a b = record { at = λ k. omega (arith, bit_or_lem k a b) }

pub or_least : {a b c : ℕ} → Within a c → Within b c → Within (bit_or a b) c
or_least {a} {b} {c} h g = record { at = λ k. omega (arith, bit_or_lem k a b, h.at k, g.at k) }

pub within_le : {a b : ℕ} → Within a b → a ≤ b
within_le {a} {b} h = le_trans (le_of_eq (sym (and_of_within h))) (and_le_r a b)

-- ---- clearing: "at least" is kept where the test is, and a join by and goes through

pub clear_within : (m x : ℕ) → Within (clear m x) x
unfolding clear
clear_within m x = and_within_left x (2 ^ 32 - 1 - m)

pub clear_unless_within : (keep : Bool) (m x : ℕ) → Within (clear_unless keep m x) x
unfolding clear_unless
clear_unless_within true m x = within_refl x
clear_unless_within false m x = clear_within m x

pub and_idem : (a : ℕ) → bit_and a a ≡ a
and_idem a = bits_ext _ _ (λ k. omega (arith, bit_and_lem k a a))

pub and_assoc : (a b c : ℕ) → bit_and (bit_and a b) c ≡ bit_and a (bit_and b c)
and_assoc a b c = bits_ext _ _ (λ k. omega (arith, bit_and_lem k (bit_and a b) c, bit_and_lem k a b, bit_and_lem k a (bit_and b c), bit_and_lem k b c))

-- (a ∧ m) ∧ (b ∧ m) is (a ∧ b) ∧ m
pub and_and : (a b m : ℕ) → bit_and (bit_and a b) m ≡ bit_and (bit_and a m) (bit_and b m)
and_and a b m =
    bits_ext _ _ (λ k. omega (arith, bit_and_lem k (bit_and a b) m, bit_and_lem k a b, bit_and_lem k (bit_and a m) (bit_and b m), bit_and_lem k a m, bit_and_lem k b m))

-- (a ∧ b) ∨ m is (a ∨ m) ∧ (b ∨ m)
pub or_and : (a b m : ℕ) → bit_or (bit_and a b) m ≡ bit_and (bit_or a m) (bit_or b m)
or_and a b m =
    bits_ext _ _ (λ k. omega (arith, bit_or_lem k (bit_and a b) m, bit_and_lem k a b, bit_and_lem k (bit_or a m) (bit_or b m), bit_or_lem k a m, bit_or_lem k b m))

-- clearing, too, goes through an and
pub clear_unless_and : (p q : Bool) (m x y : ℕ) → clear_unless (p && q) m (bit_and x y) ≡ bit_and (clear_unless p m x) (clear_unless q m y)
unfolding clear_unless clear
clear_unless_and true true m x y = refl
clear_unless_and true false m x y = and_assoc x y (2 ^ 32 - 1 - m)
clear_unless_and false true m x y =
    let n : ℕ = 2 ^ 32 - 1 - m in
    bits_ext _ _ (λ k. omega (arith, bit_and_lem k (bit_and x y) n, bit_and_lem k x y, bit_and_lem k (bit_and x n) y, bit_and_lem k x n))
clear_unless_and false false m x y = and_and x y (2 ^ 32 - 1 - m)
