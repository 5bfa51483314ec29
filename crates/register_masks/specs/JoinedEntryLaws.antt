-- Registers of two entries: bit 28 of 1.EDX stays the first's, where two are alike the join is the base's plain and, and the join stays like
-- the first.
use Rattle.std.specs.Prelude.{◌≡◌, Bool, true, false, ℕ, ◌^◌, eqb, ltb}
use Rattle.std.proofs.Math.Path.{refl}
use Rattle.std.proofs.Common.{sym, ◌∙◌, arith, eqb-true, ltb-true, ltb-false}
use Rattle.std.specs.Int.Bits.{bit_and, bit_or}
use Rattle.std.proofs.lemmas.Bool.{eqb-false}
use Rattle.bits.specs.Search.{every}
use Rattle.bits.specs.SearchLaws.{every_at}
use Rattle.bits.specs.Bits.{bit}
use Rattle.bits.specs.BitsLaws.{bit_and_lem, bit_or_lem, bit_lt, bits_ext, has_not}
use Rattle.bits.proofs.BitsLaws.{none_from}
use Rattle.x86defs.specs.declared.CpuidResult.{CpuidResult}
use Rattle.finish.specs.Kinds.{Kind, Kinds, Registers}
use Rattle.finish.specs.Kinds.Kind.{feature, feature_but28, area, freed, other}
use Rattle.finish.specs.MeetLaws.{meet}
use Rattle.register_masks.specs.Join.{joined_register}
use Rattle.register_masks.specs.Alike.{Alike}

-- ---- bit 28

pub keeps_28 : (a b : ℕ) → bit 28 (bit_and a (bit_or b (2 ^ 28))) ≡ bit 28 a
keeps_28 a b =
    let one : bit 28 (2 ^ 28) ≡ 1 = unfold bit in refl in
    omega (arith, bit_and_lem 28 a (bit_or b (2 ^ 28)), bit_or_lem 28 b (2 ^ 28), one, bit_lt 28 a, bit_lt 28 b)

pub other_bits : (k : ℕ) → (k ≡ 28 → ⊥) → bit k (2 ^ 28) ≡ 0
unfolding bit
other_bits k n = go (ltb k 28) refl
  where
    below : every (λ j. eqb (bit j (2 ^ 28)) 0) 28 ≡ true
    below = refl

    go : (t : Bool) → ltb k 28 ≡ t → bit k (2 ^ 28) ≡ 0
    go true e = eqb-true _ _ (every_at (λ j. eqb (bit j (2 ^ 28)) 0) 28 below k (ltb-true k 28 e))
    go false e = has_not k (2 ^ 28) (none_from (2 ^ 28) 29 refl k (omega (arith, ltb-false k 28 e, n)))

-- any other bit is the and
pub joins_others : (a b k : ℕ) → (k ≡ 28 → ⊥) → bit k (bit_and a (bit_or b (2 ^ 28))) ≡ bit k (bit_and a b)
joins_others a b k n = omega (arith, bit_and_lem k a (bit_or b (2 ^ 28)), bit_or_lem k b (2 ^ 28), bit_and_lem k a b, other_bits k n)

-- where the two agree in it, the join is the plain and
plain_and : (a b : ℕ) → bit 28 a ≡ bit 28 b → bit_and a (bit_or b (2 ^ 28)) ≡ bit_and a b
plain_and a b e = bits_ext _ _ at_bit
  where
    at_bit : (k : ℕ) → bit k (bit_and a (bit_or b (2 ^ 28))) ≡ bit k (bit_and a b)
    at_bit k = go (eqb k 28) refl
      where
        go : (t : Bool) → eqb k 28 ≡ t → bit k (bit_and a (bit_or b (2 ^ 28))) ≡ bit k (bit_and a b)
        go true q = let p : k ≡ 28 = eqb-true k 28 q in rw p (keeps_28 a b ∙ sym (omega (arith, bit_and_lem 28 a b, e)))
        go false q = joins_others a b k (eqb-false k 28 q)

-- ---- a register

alike_refl : (k : Kind) (a : ℕ) → Alike k a a
alike_refl feature a = tt
alike_refl feature_but28 a = refl
alike_refl area a = tt
alike_refl freed a = tt
alike_refl other a = refl

-- two that are like a third
alike_both : (k : Kind) (a b c : ℕ) → Alike k a b → Alike k a c → Alike k b c
alike_both feature a b c p q = tt
alike_both feature_but28 a b c p q = sym p ∙ q
alike_both area a b c p q = tt
alike_both freed a b c p q = tt
alike_both other a b c p q = sym p ∙ q

pub alike_pooled : (k : Kind) (x a b : ℕ) → Alike k x a → Alike k x (joined_register k a b)
alike_pooled feature x a b p = tt
alike_pooled feature_but28 x a b p = p ∙ sym (keeps_28 a b)
alike_pooled area x a b p = tt
alike_pooled freed x a b p = tt
alike_pooled other x a b p = p

pub pooled_joined : (k : Kind) (a b : ℕ) → Alike k a b → joined_register k a b ≡ meet k a b
pooled_joined feature a b p = refl
pooled_joined feature_but28 a b p = plain_and a b p
pooled_joined area a b p = refl
pooled_joined freed a b p = refl
pooled_joined other a b p = refl

-- ---- all four

pub registers_refl : (k : Kinds) (a : CpuidResult) → Registers Alike k a a
registers_refl k a = record {
  eax = alike_refl k.eax a.eax;
  ebx = alike_refl k.ebx a.ebx;
  ecx = alike_refl k.ecx a.ecx;
  edx = alike_refl k.edx a.edx;
}

pub registers_both : (k : Kinds) {a b c : CpuidResult} → Registers Alike k a b → Registers Alike k a c → Registers Alike k b c
registers_both k p q = record {
  eax = alike_both k.eax _ _ _ p.eax q.eax;
  ebx = alike_both k.ebx _ _ _ p.ebx q.ebx;
  ecx = alike_both k.ecx _ _ _ p.ecx q.ecx;
  edx = alike_both k.edx _ _ _ p.edx q.edx;
}
