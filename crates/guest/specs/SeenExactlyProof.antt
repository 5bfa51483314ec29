-- What a guest sees differs from the table exactly as SeenExactly.antt says.
use Rattle.std.specs.Prelude.{◌≡◌, refl, Bool, true, false, ◌&&◌, ◌≢◌, ℕ, ◌+◌, ◌-◌, ◌*◌, ◌/◌, ◌%◌, ◌^◌, ◌<◌, eqb}
use Rattle.std.proofs.Common.{sym, ap, ◌∙◌, arith, eqb-true}
use Rattle.std.specs.Int.Bits.{bit_and, bit_or}
use Rattle.std.proofs.lemmas.Nat.{and_mask}
use Rattle.bits.specs.Choice.{pick}
use Rattle.bits.specs.ChoiceLaws.{and_left, and_right}
use Rattle.bits.specs.Search.{every}
use Rattle.bits.specs.SearchLaws.{every_at}
use Rattle.bits.specs.Bits.{bit, has, clear}
use Rattle.bits.specs.BitsLaws.{bit_lt, bit_and_lem, bit_or_lem, bit_shr}
use Rattle.x86defs.specs.declared.CpuidResult.{CpuidResult}
use Rattle.guest.specs.declared.Processor.{Processor}
use Rattle.guest.specs.Guest.{number_seen, osxsave_seen, version_seen}
use Rattle.guest.specs.SeenExactly.{NumberBits, OsxsaveBit}

-- ---- bits

-- the low w bits of a number are its rest by 2^w
low_bits : (w : ℕ) → every (λ k. eqb (bit k (2 ^ w - 1)) 1) w ≡ true → (k x : ℕ) → k < w → bit k (x % 2 ^ w) ≡ bit k x
low_bits w t k x l =
    let one : bit k (2 ^ w - 1) ≡ 1 = eqb-true _ _ (every_at (λ j. eqb (bit j (2 ^ w - 1)) 1) w t k l) in
    ap (bit k) (sym (and_mask x w)) ∙ omega (arith, bit_and_lem k x (2 ^ w - 1), one, bit_lt k x)

low_24 : (k x : ℕ) → k < 24 → bit k (x % 2 ^ 24) ≡ bit k x
unfolding bit
low_24 = low_bits 24 refl

low_8 : (k x : ℕ) → k < 8 → bit k (x % 2 ^ 8) ≡ bit k x
unfolding bit
low_8 = low_bits 8 refl

pub number_bits : (n x : ℕ) → NumberBits n x (number_seen n x)
unfolding number_seen
number_bits n x =
    let y : ℕ = x % 2 ^ 24 + n % 2 ^ 8 * 2 ^ 24 in
    let low : y % 2 ^ 24 ≡ x % 2 ^ 24 = omega arith in
    let high : y / 2 ^ 24 ≡ n % 2 ^ 8 = omega arith in
    record {
      number = λ j l. sym (bit_shr 24 j y) ∙ ap (bit j) high ∙ low_8 j n l;
      others = λ k l. sym (low_24 k y l) ∙ ap (bit k) low ∙ low_24 k x l;
    }

-- bit 27 is one bit
abbrev only_test : ℕ → Bool
only_test k = pick (eqb k 27) true (eqb (bit k (2 ^ 27)) 0 && eqb (bit k (2 ^ 32 - 1 - 2 ^ 27)) 1)

all_only : every only_test 32 ≡ true
unfolding bit
all_only = refl

record Apart (k : ℕ) : Type 0 where
  unset : bit k (2 ^ 27) ≡ 0
  kept : bit k (2 ^ 32 - 1 - 2 ^ 27) ≡ 1

apart : (k : ℕ) → k < 32 → k ≢ 27 → Apart k
apart k l n = go (eqb k 27) refl (every_at only_test 32 all_only k l)
  where
    go : (b : Bool) → eqb k 27 ≡ b → pick b true (eqb (bit k (2 ^ 27)) 0 && eqb (bit k (2 ^ 32 - 1 - 2 ^ 27)) 1) ≡ true → Apart k
    go true e t = absurd (n (eqb-true k 27 e))
    go false e t = record {
      unset = eqb-true _ _ (and_left _ _ t);
      kept = eqb-true _ _ (and_right (eqb (bit k (2 ^ 27)) 0) _ t);
    }

set_27 : bit 27 (2 ^ 27) ≡ 1
unfolding bit
set_27 = refl

cleared_27 : bit 27 (2 ^ 32 - 1 - 2 ^ 27) ≡ 0
unfolding bit
cleared_27 = refl

pub osxsave_bit : (on : Bool) (x : ℕ) → OsxsaveBit on x (osxsave_seen on x)
unfolding osxsave_seen clear
osxsave_bit on x = go (on && has 26 x) refl
  where
    go : (b : Bool) → (on && has 26 x) ≡ b → OsxsaveBit on x (pick b (bit_or x (2 ^ 27)) (bit_and x (2 ^ 32 - 1 - 2 ^ 27)))
    go true e = record {
      osxsave = omega (arith, bit_or_lem 27 x (2 ^ 27), set_27, bit_lt 27 x) ∙ sym (ap (λ (c : Bool). pick c 1 0) e);
      others = λ k l n. let a = apart k l n in omega (arith, bit_or_lem k x (2 ^ 27), a.unset);
    }
    go false e = record {
      osxsave = omega (arith, bit_and_lem 27 x (2 ^ 32 - 1 - 2 ^ 27), cleared_27) ∙ sym (ap (λ (c : Bool). pick c 1 0) e);
      others = λ k l n. let a = apart k l n in omega (arith, bit_and_lem k x (2 ^ 32 - 1 - 2 ^ 27), a.kept, bit_lt k x);
    }

-- ---- leaf 1, EAX

pub version_eax : (v : Processor) (r : CpuidResult) → (version_seen v r).eax ≡ r.eax
version_eax v r = refl
