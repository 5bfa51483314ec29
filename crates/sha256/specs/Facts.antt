-- What holds of the definition: the padding and the length's field are the standard's, and the digests of three messages are the published ones.
use Rattle.std.specs.Prelude.{◌≡◌, ℕ, zero, suc, ◌+◌, ◌-◌, ◌*◌, ◌/◌, ◌%◌, ◌^◌, ◌<◌, Bool, true, false, ◌&&◌, List, [], ◌∷◌, length, ◌==◌, refl}
use Rattle.std.proofs.Common.{ap₂, ◌∙◌, pow-suc, mul_comm, mul_assoc, add-mul, add_assoc, arith, length-append, eqb-true}
use Rattle.std.proofs.Math.Arith.{mod-mul}
use Rattle.sha256.specs.Block.{Σ₀, Σ₁, σ₀, σ₁, constants, word_at, words, next_word, with_next, schedule, turn, turns, added, compress}
use Rattle.sha256.specs.Sha256.{big_endian, padding, padded, initial, hashed, digest_of, sha256}
use Rattle.sha256.specs.Sha256Laws.{length_padding}

-- a padded message is whole blocks
pub padded_whole : (m : List ℕ) → length (padded m) % 64 ≡ 0
unfolding padded
padded_whole m = omega (arith, length-append m (padding (length m)), length_padding (length m))

-- 5.1.1: ℓ + 1 + k is 448 modulo 512, in bytes; k is 7 and 8 for each zero byte
pub zeros_fill : (n : ℕ) → (n + 1 + (119 - n % 64) % 64) % 64 ≡ 56
zeros_fill n = omega arith

-- the number that bytes stand for, the highest first
unfoldable pub value_from : ℕ → List ℕ → ℕ
value_from n [] = n
value_from n (b ∷ l) = value_from (n * 256 + b) l

pow_pos_of : (k : ℕ) → 0 < 256 ^ k
pow_pos_of zero = omega arith
pow_pos_of (suc k) = omega (arith, pow-suc 256 k, pow_pos_of k)

value_big_endian : (k a x : ℕ) → value_from a (big_endian k x) ≡ a * 256 ^ k + x % 256 ^ k
unfolding value_from big_endian
value_big_endian zero a x = omega arith
value_big_endian (suc k) a x =
    let c : ℕ = 256 ^ k in
    let d : ℕ = x / c % 256 in
    value_big_endian k (a * 256 + d) x
    ∙ rw (pow-suc 256 k, mul_comm c 256, mod-mul x {m = 256} {c = c} (omega arith) (pow_pos_of k), add-mul (a * 256) d c, mul_assoc a 256 c)
    (add_assoc (a * (256 * c)) (d * c) (x % c))

-- below 2^61 bytes, which is below 2^64 bits, the field is the length in bits
pub field_value : (n : ℕ) → n < 2 ^ 61 → value_from 0 (big_endian 8 (8 * n)) ≡ 8 * n
field_value n h = value_big_endian 8 0 (8 * n) ∙ omega arith

pub digest_length : (m : List ℕ) → length (sha256 m) ≡ 32
unfolding sha256 digest_of big_endian
digest_length m = refl

-- ---- whether two lists are the same, as a computed test: where they differ it is told at once

unfoldable same_as : List ℕ → List ℕ → Bool
same_as [] [] = true
same_as [] (b ∷ y) = false
same_as (a ∷ x) [] = false
same_as (a ∷ x) (b ∷ y) = a == b && same_as x y

same_as_lem : (x y : List ℕ) → same_as x y ≡ true → x ≡ y
unfolding same_as
same_as_lem [] [] e = refl
same_as_lem [] (b ∷ y) e = let z : ◌≡◌ {A = ℕ} 0 1 = cc in absurd (omega arith)
same_as_lem (a ∷ x) [] e = let z : ◌≡◌ {A = ℕ} 0 1 = cc in absurd (omega arith)
same_as_lem (a ∷ x) (b ∷ y) e = go (a == b) refl (same_as_lem x y) e
  where
    go : (c : Bool) → (a == b) ≡ c → (same_as x y ≡ true → x ≡ y) → (c && same_as x y) ≡ true → (a ∷ x) ≡ (b ∷ y)
    go true f h g = ap₂ ◌∷◌ (eqb-true a b f) (h g)
    go false f h g = let z : ◌≡◌ {A = ℕ} 0 1 = cc in absurd (omega arith)

-- ---- messages: none, "abc", and the standard's of two blocks, "abcdbcde..nopq"

pub empty : sha256 ([]) ≡ 0xe3 ∷ 0xb0 ∷ 0xc4 ∷ 0x42 ∷ 0x98 ∷ 0xfc ∷ 0x1c ∷ 0x14 ∷ 0x9a ∷ 0xfb ∷ 0xf4 ∷ 0xc8 ∷ 0x99 ∷ 0x6f ∷ 0xb9 ∷ 0x24 ∷
    0x27 ∷ 0xae ∷ 0x41 ∷ 0xe4 ∷ 0x64 ∷ 0x9b ∷ 0x93 ∷ 0x4c ∷ 0xa4 ∷ 0x95 ∷ 0x99 ∷ 0x1b ∷ 0x78 ∷ 0x52 ∷ 0xb8 ∷ 0x55 ∷ []
unfolding Σ₀ Σ₁ σ₀ σ₁ constants big_endian padding padded word_at words initial next_word with_next schedule turn turns added compress hashed digest_of sha256 same_as
empty = same_as_lem _ _ refl

pub abc : sha256 (0x61 ∷ 0x62 ∷ 0x63 ∷ []) ≡ 0xba ∷ 0x78 ∷ 0x16 ∷ 0xbf ∷ 0x8f ∷ 0x01 ∷ 0xcf ∷ 0xea ∷ 0x41 ∷ 0x41 ∷ 0x40 ∷ 0xde ∷ 0x5d ∷ 0xae ∷ 0x22 ∷ 0x23 ∷
    0xb0 ∷ 0x03 ∷ 0x61 ∷ 0xa3 ∷ 0x96 ∷ 0x17 ∷ 0x7a ∷ 0x9c ∷ 0xb4 ∷ 0x10 ∷ 0xff ∷ 0x61 ∷ 0xf2 ∷ 0x00 ∷ 0x15 ∷ 0xad ∷ []
unfolding Σ₀ Σ₁ σ₀ σ₁ constants big_endian padding padded word_at words initial next_word with_next schedule turn turns added compress hashed digest_of sha256 same_as
abc = same_as_lem _ _ refl

pub two_blocks : sha256 (0x61 ∷ 0x62 ∷ 0x63 ∷ 0x64 ∷ 0x62 ∷ 0x63 ∷ 0x64 ∷ 0x65 ∷ 0x63 ∷ 0x64 ∷ 0x65 ∷ 0x66 ∷ 0x64 ∷ 0x65 ∷ 0x66 ∷ 0x67 ∷ 0x65 ∷ 0x66 ∷ 0x67 ∷ 0x68 ∷ 0x66 ∷ 0x67 ∷ 0x68 ∷ 0x69 ∷ 0x67 ∷ 0x68 ∷ 0x69 ∷ 0x6a ∷
    0x68 ∷ 0x69 ∷ 0x6a ∷ 0x6b ∷ 0x69 ∷ 0x6a ∷ 0x6b ∷ 0x6c ∷ 0x6a ∷ 0x6b ∷ 0x6c ∷ 0x6d ∷ 0x6b ∷ 0x6c ∷ 0x6d ∷ 0x6e ∷ 0x6c ∷ 0x6d ∷ 0x6e ∷ 0x6f ∷ 0x6d ∷ 0x6e ∷ 0x6f ∷ 0x70 ∷ 0x6e ∷ 0x6f ∷ 0x70 ∷ 0x71 ∷ []) ≡ 0x24 ∷ 0x8d ∷ 0x6a ∷ 0x61 ∷ 0xd2 ∷ 0x06 ∷ 0x38 ∷ 0xb8 ∷ 0xe5 ∷ 0xc0 ∷ 0x26 ∷ 0x93 ∷ 0x0c ∷ 0x3e ∷ 0x60 ∷ 0x39 ∷
    0xa3 ∷ 0x3c ∷ 0xe4 ∷ 0x59 ∷ 0x64 ∷ 0xff ∷ 0x21 ∷ 0x67 ∷ 0xf6 ∷ 0xec ∷ 0xed ∷ 0xd4 ∷ 0x19 ∷ 0xdb ∷ 0x06 ∷ 0xc1 ∷ []
unfolding Σ₀ Σ₁ σ₀ σ₁ constants big_endian padding padded word_at words initial next_word with_next schedule turn turns added compress hashed digest_of sha256 same_as
two_blocks = same_as_lem _ _ refl
