-- Eight zeros, byte by byte, as two words, as the two joined by or, and as one number of two words or of eight bytes.
use Rattle.std.specs.Prelude.{◌≡◌, refl, Bool, true, false, List, ◌≢◌, ℕ, ◌+◌, ◌*◌, ◌<◌, get_or}
use Rattle.std.proofs.Math.Path.{sym}
use Rattle.std.proofs.Common.{ap, ◌∙◌, arith, lit<}
use Rattle.std.proofs.Math.Dec.{eqb}
use Rattle.std.specs.Int.Bits.{bit_or, or_zero_l}
use Rattle.std.proofs.lemmas.Nat.{le_or_l, le_or_r}
use borrow.Author.Tests.{eqb-true, eqb-false, eq-eqb, ne_eqb}
use Rattle.bits.specs.ChoiceLaws.{never_both, and_both}
use Rattle.bits.specs.SearchLaws.{every_at, every_fails}
use Rattle.pages.specs.Layout.{word_at}
use Rattle.pages.specs.Reserved.{eight_zeros}

-- the byte at o + k
abbrev byte_at : List ℕ → ℕ → ℕ → ℕ
byte_at s o k = get_or s (o + k) 0

module _ (s : List ℕ) (o : ℕ) where
  pub zero_byte : eight_zeros s o ≡ true → (k : ℕ) → k < 8 → byte_at s o k ≡ 0
  unfolding eight_zeros
  zero_byte e k l = eqb-true _ 0 (every_at (λ j. eqb (byte_at s o j) 0) 8 e k l)

  pub nonzero_byte : eight_zeros s o ≡ false → (k : ℕ) × (k < 8) × (byte_at s o k ≢ 0)
  unfolding eight_zeros
  nonzero_byte e = let (k, l, f) = every_fails (λ j. eqb (byte_at s o j) 0) 8 e in (k, l, eqb-false _ 0 f)

  pub zero_bytes : ((k : ℕ) → k < 8 → byte_at s o k ≡ 0) → eight_zeros s o ≡ true
  zero_bytes f = go (eight_zeros s o) refl
    where
      go : (b : Bool) → eight_zeros s o ≡ b → b ≡ true
      go true e = refl
      go false e = let (k, l, n) = nonzero_byte e in absurd (n (f k l))

-- the word there, by its bytes
abbrev word_of : List ℕ → ℕ → ℕ → ℕ
word_of s o k = byte_at s o k + 256 * byte_at s o (k + 1) + 65536 * byte_at s o (k + 2) + 16777216 * byte_at s o (k + 3)

module _ (s : List ℕ) (o : ℕ) where
  word_of_lem : (k : ℕ) → word_at s (o + k) ≡ word_of s o k
  word_of_lem k =
      let a : o + k + 1 ≡ o + (k + 1) = omega arith in
      let b : o + k + 2 ≡ o + (k + 2) = omega arith in
      let c : o + k + 3 ≡ o + (k + 3) = omega arith in
      rw (a, b, c)

  first_word : word_at s o ≡ word_of s o 0
  first_word = let z : o ≡ o + 0 = omega arith in ap (word_at s) z ∙ word_of_lem 0

  pub zeros_of_words : word_at s o ≡ 0 → word_at s (o + 4) ≡ 0 → eight_zeros s o ≡ true
  unfolding eight_zeros
  zeros_of_words a b =
      let l : word_of s o 0 ≡ 0 = sym first_word ∙ a in
      let h : word_of s o 4 ≡ 0 = sym (word_of_lem 4) ∙ b in
      and_both (eq-eqb (byte_at s o 7) 0 (omega arith))
      (and_both (eq-eqb (byte_at s o 6) 0 (omega arith))
      (and_both (eq-eqb (byte_at s o 5) 0 (omega arith))
      (and_both (eq-eqb (byte_at s o 4) 0 (omega arith))
      (and_both (eq-eqb (byte_at s o 3) 0 (omega arith))
      (and_both (eq-eqb (byte_at s o 2) 0 (omega arith))
      (and_both (eq-eqb (byte_at s o 1) 0 (omega arith))
      (and_both (eq-eqb (byte_at s o 0) 0 (omega arith)) refl)))))))

  pub words_of_zeros : eight_zeros s o ≡ true → (word_at s o ≡ 0) × (word_at s (o + 4) ≡ 0)
  words_of_zeros e =
      let b : (k : ℕ) → k < 8 → byte_at s o k ≡ 0 = zero_byte s o e in (
        first_word ∙ omega (arith, b 0 (lit< tt), b 1 (lit< tt), b 2 (lit< tt), b 3 (lit< tt)),
        word_of_lem 4 ∙ omega (arith, b 4 (lit< tt), b 5 (lit< tt), b 6 (lit< tt), b 7 (lit< tt)),
      )

  -- the two joined by or
  pub zeros_by_or : eqb (bit_or (word_at s o) (word_at s (o + 4))) 0 ≡ eight_zeros s o
  zeros_by_or = go (eight_zeros s o) refl
    where
      low : ℕ
      low = word_at s o

      high : ℕ
      high = word_at s (o + 4)

      go : (b : Bool) → eight_zeros s o ≡ b → eqb (bit_or low high) 0 ≡ b
      go true e = let (l, h) = words_of_zeros e in eq-eqb (bit_or low high) 0 (ap (λ x. bit_or x high) l ∙ or_zero_l high ∙ h)
      go false e =
          ne_eqb (bit_or low high) 0
          (λ z. never_both (zeros_of_words (omega (arith, le_or_l low high)) (omega (arith, le_or_r low high))) e)

  -- the two as one number
  pub zeros_by_number : eqb (word_at s o + 4294967296 * word_at s (o + 4)) 0 ≡ eight_zeros s o
  zeros_by_number = go (eight_zeros s o) refl
    where
      number : ℕ
      number = word_at s o + 4294967296 * word_at s (o + 4)

      go : (b : Bool) → eight_zeros s o ≡ b → eqb number 0 ≡ b
      go true e = let (l, h) = words_of_zeros e in eq-eqb number 0 (omega arith)
      go false e = ne_eqb number 0 (λ z. never_both (zeros_of_words (omega arith) (omega arith)) e)

  -- the eight bytes as one number, the lowest first
  pub zeros_by_bytes : {n : ℕ}
      → n
      ≡ get_or s o 0 + byte_at s o 1 * 256 + byte_at s o 2 * 65536 + byte_at s o 3 * 16777216 + byte_at s o 4 * 4294967296
      + byte_at s o 5 * 1099511627776 + byte_at s o 6 * 281474976710656 + byte_at s o 7 * 72057594037927936
      → eqb n 0 ≡ eight_zeros s o
  zeros_by_bytes {n} e = go (eight_zeros s o) refl
    where
      first : get_or s o 0 ≡ byte_at s o 0
      first = let z : o ≡ o + 0 = omega arith in ap (λ j. get_or s j 0) z

      go : (b : Bool) → eight_zeros s o ≡ b → eqb n 0 ≡ b
      go true h =
          let b : (k : ℕ) → k < 8 → byte_at s o k ≡ 0 = zero_byte s o h in
          eq-eqb n 0
          (omega (
            arith,
            e,
            first,
            b 0 (lit< tt),
            b 1 (lit< tt),
            b 2 (lit< tt),
            b 3 (lit< tt),
            b 4 (lit< tt),
            b 5 (lit< tt),
            b 6 (lit< tt),
            b 7 (lit< tt),
          ))
      go false h = ne_eqb n 0 (λ z. never_both (zeros_of_words (first_word ∙ omega (arith, e, z, first)) (word_of_lem 4 ∙ omega (arith, e, z))) h)
