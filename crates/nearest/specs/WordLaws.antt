-- A flipped bit of a byte is a flipped bit of the word that holds it.
use Rattle.std.specs.Prelude.{◌≡◌, List, ℕ, zero, suc, ◌+◌, ◌*◌, ◌^◌, ◌<◌, length, get_or, set}
use Rattle.std.proofs.Common.{sym, ap, ◌∙◌, arith, pow_pos, pow-add, get_or-set_same, get_or-set_other}
use Rattle.std.proofs.Math.Arith.{digits_lt}
use Rattle.std.specs.Int.Bits.{bit_xor, xor_zero_r}
use Rattle.std.proofs.lemmas.Nat.{xor_block}
use Rattle.std.proofs.Math.Pow.{pow-lt}
use Rattle.pages.specs.Layout.{word_at}

-- one digit of eight bits
xor_digit : (hi x lo k b : ℕ) → x < 2 ^ 8 → lo < 2 ^ k → b < 8
    → bit_xor (hi * 2 ^ (8 + k) + (x * 2 ^ k + lo)) (2 ^ (k + b)) ≡ hi * 2 ^ (8 + k) + (bit_xor x (2 ^ b) * 2 ^ k + lo)
xor_digit hi x lo k b h l c =
    let low : 2 ^ b < 2 ^ 8 = pow-lt c in
    let e : 2 ^ (k + b) ≡ 0 * 2 ^ (8 + k) + (2 ^ b * 2 ^ k + 0) = pow-add 2 k b ∙ lemma (2 ^ k) (2 ^ b) (2 ^ (8 + k)) in
    let f : x * 2 ^ k + lo < 2 ^ (8 + k) = rw (pow-add 2 8 k) (digits_lt h l) in
    let g : 2 ^ b * 2 ^ k + 0 < 2 ^ (8 + k) = rw (pow-add 2 8 k) (digits_lt low (pow_pos k)) in
    rw (e, xor_block (8 + k) hi 0 (x * 2 ^ k + lo) (2 ^ b * 2 ^ k + 0) f g, xor_block k x (2 ^ b) lo 0 l (pow_pos k), xor_zero_r, xor_zero_r)
  where
    lemma : (a b c : ℕ) → a * b ≡ 0 * c + (b * a + 0)
    lemma a b c = native.Mathlib.Nat.mul_comm a b ∙ omega arith

module _ (s : List ℕ) (bytes : (i : ℕ) → get_or s i 0 < 256) (at b : ℕ) (inside : at < length s) (low : b < 8) where
  abbrev after : List ℕ
  after = set s at (bit_xor (get_or s at 0) (2 ^ b))

  other : (i : ℕ) → (i ≡ at → ⊥) → get_or after i 0 ≡ get_or s i 0
  other i n = get_or-set_other s at i _ 0 n

  -- a word that does not hold the byte
  pub word_other : (o : ℕ) → ((j : ℕ) → j < 4 → o + j ≡ at → ⊥) → word_at after o ≡ word_at s o
  word_other o n =
      omega (
        arith,
        other o (λ e. n 0 (omega arith) (omega arith)),
        other (o + 1) (n 1 (omega arith)),
        other (o + 2) (n 2 (omega arith)),
        other (o + 3) (n 3 (omega arith)),
      )

  -- the word that holds it, as a digit of eight bits
  by_digit : (o k hi lo : ℕ) → lo < 2 ^ k → word_at s o ≡ hi * 2 ^ (8 + k) + (get_or s at 0 * 2 ^ k + lo)
      → word_at after o ≡ hi * 2 ^ (8 + k) + (get_or after at 0 * 2 ^ k + lo) → word_at after o ≡ bit_xor (word_at s o) (2 ^ (k + b))
  by_digit o k hi lo l e f =
      f
      ∙ ap (λ (x : ℕ). hi * 2 ^ (8 + k) + (x * 2 ^ k + lo)) (get_or-set_same s at (bit_xor (get_or s at 0) (2 ^ b)) 0 inside)
      ∙ sym (xor_digit hi (get_or s at 0) lo k b (bytes at) l low)
      ∙ ap (λ (x : ℕ). bit_xor x (2 ^ (k + b))) (sym e)

  -- as its byte j
  pub word_at_lem : (o j : ℕ) → j < 4 → at ≡ o + j → word_at after o ≡ bit_xor (word_at s o) (2 ^ (8 * j + b))
  word_at_lem o j h e = go j h e
    where
      c : ℕ → ℕ
      c i = get_or s (o + i) 0

      same : (i : ℕ) → at ≡ o + i → get_or s at 0 ≡ c i
      same i q = ap (λ (x : ℕ). get_or s x 0) q

      now : (i : ℕ) → at ≡ o + i → get_or after at 0 ≡ get_or after (o + i) 0
      now i q = ap (λ (x : ℕ). get_or after x 0) q

      zeroth : o + 0 ≡ o
      zeroth = omega arith

      left : (i : ℕ) → (o + i ≡ at → ⊥) → get_or after (o + i) 0 ≡ get_or s (o + i) 0
      left i n = other (o + i) n

      go : (j : ℕ) → j < 4 → at ≡ o + j → word_at after o ≡ bit_xor (word_at s o) (2 ^ (8 * j + b))
      go zero u q =
          let d : 8 * 0 + b ≡ 0 + b = omega arith in
          let z : at ≡ o = omega arith in
          rw d
          (by_digit o 0 (c 1 + 256 * c 2 + 65536 * c 3) 0 (omega arith)
          (omega (arith, ap (λ (x : ℕ). get_or s x 0) z))
          (omega (arith, ap (λ (x : ℕ). get_or after x 0) z, left 1 (λ x. omega arith), left 2 (λ x. omega arith), left 3 (λ x. omega arith))))
      go (suc zero) u q =
          by_digit o 8 (c 2 + 256 * c 3) (get_or s o 0) (bytes o)
          (omega (arith, same 1 q))
          (omega (arith, now 1 q, other o (λ x. omega arith), left 2 (λ x. omega arith), left 3 (λ x. omega arith)))
      go (suc (suc zero)) u q =
          by_digit o 16 (c 3) (get_or s o 0 + 256 * c 1) (omega (arith, bytes o, bytes (o + 1)))
          (omega (arith, same 2 q))
          (omega (arith, now 2 q, other o (λ x. omega arith), left 1 (λ x. omega arith), left 3 (λ x. omega arith)))
      go (suc (suc (suc zero))) u q =
          by_digit o 24 0 (get_or s o 0 + 256 * c 1 + 65536 * c 2) (omega (arith, bytes o, bytes (o + 1), bytes (o + 2)))
          (omega (arith, same 3 q))
          (omega (arith, now 3 q, other o (λ x. omega arith), left 1 (λ x. omega arith), left 2 (λ x. omega arith)))
      go (suc (suc (suc (suc i)))) u q = absurd (omega arith)
