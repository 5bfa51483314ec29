-- A word of the components that have a row: gathered bit by bit from the memory, and counted by its ones.
use Rattle.std.specs.Prelude.{◌≡◌, refl, Bool, true, false, List, ℕ, zero, suc, ◌+◌, ◌-◌, ◌*◌, ◌/◌, ◌^◌, ◌≤◌, ◌<◌, get_or}
use Rattle.std.proofs.Common.{sym, ap, ap₂, ◌∙◌, arith, pow_mono}
use mir.Val.{bool_byte}
use Rattle.std.specs.Int.Count.{ones, ones_step}
use Rattle.std.proofs.lemmas.Nat.{ones-le}
use Rattle.bits.specs.Lists.{sum_to, one}
use Rattle.bits.specs.ListsLaws.{sum_ext}
use Rattle.bits.specs.Bits.{bit, has}
use Rattle.bits.specs.BitsLaws.{bit_zero, bit_suc, bit_shr, has_bit, has_not, bit_has, bit_has_not}
use Rattle.masking.specs.Place
use Rattle.memory.specs.Memory.{is_there}
use Rattle.memory.specs.Held.{byte_le}
use Rattle.image.specs.Sums.{sum_front}

-- ---- a word gathered from the highest bit down

one_bit_lem : (k n : ℕ) → bit k n ≡ one (has k n)
one_bit_lem k n = go (has k n) refl
  where
    go : (b : Bool) → has k n ≡ b → bit k n ≡ one b
    go true e = has_bit k n e
    go false e = has_not k n e

-- x has the bits of the subleaves from k up
pub record Gathered (o : List ℕ) (k x : ℕ) : Type 0 where
  pub bits : (j : ℕ) → k + j < 64 → has j x ≡ is_there (get_or o (Place.extended_state (k + j)) 0)
  pub fits : x < 2 ^ (64 - k)

-- there is room for one more bit
pub gathered_room : {o : List ℕ} {k x : ℕ} → Gathered o k x → 0 < k → x < 2 ^ 63
gathered_room {o} {k} g h = let l : 64 - k ≤ 63 = omega arith in omega (arith, g.fits, pow_mono l)

module _ (x : ℕ) (b : Bool) where
  last : has 0 (2 * x + bool_byte b) ≡ b
  last = go b
    where
      go : (b : Bool) → has 0 (2 * x + bool_byte b) ≡ b
      go true = bit_has 0 (2 * x + 1) (bit_zero (2 * x + 1) ∙ omega arith)
      go false = bit_has_not 0 (2 * x + 0) (bit_zero (2 * x + 0) ∙ omega arith)

  others : (j : ℕ) → has (suc j) (2 * x + bool_byte b) ≡ has j x
  unfolding has
  others j =
      let half : (2 * x + bool_byte b) / 2 ≡ x = omega (arith, byte_le b) in
      rw (bit_suc j (2 * x + bool_byte b), half)

pub gathered_next : {o : List ℕ} {k x : ℕ} {b : Bool} → Gathered o k x → 0 < k → k ≤ 64
    → b ≡ is_there (get_or o (Place.extended_state (k - 1)) 0) → Gathered o (k - 1) (2 * x + bool_byte b)
gathered_next {o} {k} {x} {b} g low high e = record { bits = bits; fits = fits }
  where
    bits : (j : ℕ) → k - 1 + j < 64 → has j (2 * x + bool_byte b) ≡ is_there (get_or o (Place.extended_state (k - 1 + j)) 0)
    bits zero h = let q : k - 1 + 0 ≡ k - 1 = omega arith in last x b ∙ e ∙ ap (λ (i : ℕ). is_there (get_or o (Place.extended_state i) 0)) (sym q)
    bits (suc j) h =
        let q : k - 1 + suc j ≡ k + j = omega arith in
        others x b j ∙ g.bits j (omega arith) ∙ ap (λ (i : ℕ). is_there (get_or o (Place.extended_state i) 0)) (sym q)

    fits : 2 * x + bool_byte b < 2 ^ (64 - (k - 1))
    fits = let q : 64 - (k - 1) ≡ suc (64 - k) = omega arith in rw q (omega (arith, g.fits, byte_le b))

-- ---- its ones

ones_bits : (d n : ℕ) → n < 2 ^ d → ones n ≡ sum_to (λ k. bit k n) d
unfolding ones sum_to
ones_bits zero n h = let z : n ≡ 0 = omega arith in ap ones z
ones_bits (suc d) n h =
    ones_step n
    ∙ ap₂ ◌+◌ (sym (bit_zero n)) (ones_bits d (n / 2) (omega arith) ∙ sum_ext _ _ d (λ k _. sym (bit_suc k n)))
    ∙ sym (sum_front (λ k. bit k n) d)

-- the ones from bit 2 up
pub ones_sum : (x : ℕ) → x < 2 ^ 64 → ones (x / 2 ^ 2) ≡ sum_to (λ k. one (has (2 + k) x)) 62
ones_sum x h = ones_bits 62 (x / 2 ^ 2) (omega arith) ∙ sum_ext _ _ 62 (λ k _. bit_shr 2 k x ∙ one_bit_lem (2 + k) x)

pub ones_few : (x : ℕ) → x < 2 ^ 64 → ones (x / 2 ^ 2) ≤ 62
ones_few x h = ones-le 62 (x / 2 ^ 2) (omega arith)
