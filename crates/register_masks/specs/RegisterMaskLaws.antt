-- Two registers of 32 bits that are the same under a mask of what must agree: no bit, bit 28 alone, or every bit.
use Rattle.std.specs.Prelude.{◌≡◌, Bool, true, false, ℕ, ◌-◌, ◌^◌, ◌<◌, eqb}
use Rattle.std.proofs.Math.Path.{refl}
use Rattle.std.proofs.Common.{sym, ap, ap₂, ◌∙◌, mod-eq_of_lt, arith, eqb-true, eq-eqb}
use Rattle.std.specs.Int.Bits.{bit_and, and_zero_r}
use Rattle.std.proofs.lemmas.Nat.{and_mask}
use Rattle.std.proofs.lemmas.Bool.{eqb-false}
use Rattle.bits.specs.Bits.{bit}
use Rattle.bits.specs.BitsLaws.{bit_and_lem, bit_lt, bits_ext}
use Rattle.register_masks.specs.JoinedEntryLaws.{other_bits}
use Rattle.register_masks.specs.AlikeLaws.{same_truth}

-- as the code has it: m has the bits that must agree
abbrev pub agree : ℕ → ℕ → ℕ → Bool
agree m a b = eqb (bit_and a m) (bit_and b m)

pub whole : (a : ℕ) → a < 2 ^ 32 → bit_and a (2 ^ 32 - 1) ≡ a
whole a h = and_mask a 32 ∙ mod-eq_of_lt h

at_28 : (a : ℕ) → bit 28 (bit_and a (2 ^ 28)) ≡ bit 28 a
at_28 a =
    let one : bit 28 (2 ^ 28) ≡ 1 = unfold bit in refl in
    omega (arith, bit_and_lem 28 a (2 ^ 28), one, bit_lt 28 a)

only_28 : (a b : ℕ) → bit 28 a ≡ bit 28 b → bit_and a (2 ^ 28) ≡ bit_and b (2 ^ 28)
only_28 a b e = bits_ext _ _ at_bit
  where
    at_bit : (k : ℕ) → bit k (bit_and a (2 ^ 28)) ≡ bit k (bit_and b (2 ^ 28))
    at_bit k = go (eqb k 28) refl
      where
        go : (t : Bool) → eqb k 28 ≡ t → bit k (bit_and a (2 ^ 28)) ≡ bit k (bit_and b (2 ^ 28))
        go true q = let p : k ≡ 28 = eqb-true k 28 q in rw p (at_28 a ∙ e ∙ sym (at_28 b))
        go false q = omega (arith, bit_and_lem k a (2 ^ 28), bit_and_lem k b (2 ^ 28), other_bits k (eqb-false k 28 q))

pub none_agreed : (a b : ℕ) → agree 0 a b ≡ true
none_agreed a b = eq-eqb _ _ (and_zero_r a ∙ sym (and_zero_r b))

pub bit_28_agreed : (a b : ℕ) → agree (2 ^ 28) a b ≡ eqb (bit 28 a) (bit 28 b)
bit_28_agreed a b =
    same_truth (agree (2 ^ 28) a b) (eqb (bit 28 a) (bit 28 b))
    (λ e. eq-eqb _ _ (sym (at_28 a) ∙ ap (bit 28) (eqb-true _ _ e) ∙ at_28 b))
    (λ e. eq-eqb _ _ (only_28 a b (eqb-true _ _ e)))

pub all_agreed : (a b : ℕ) → a < 2 ^ 32 → b < 2 ^ 32 → agree (2 ^ 32 - 1) a b ≡ eqb a b
all_agreed a b h l = ap₂ eqb (whole a h) (whole b l)
