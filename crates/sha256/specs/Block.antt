-- One block of SHA-256, from FIPS 180-4, whose section numbers stand at each part. A word is a number below 2^32, a block 16 of them.
use Rattle.std.specs.Prelude.{ℕ, zero, suc, ◌+◌, ◌-◌, ◌*◌, ◌/◌, ◌%◌, ◌^◌, List, [], ◌∷◌, ◌++◌, bit_and, bit_or, bit_xor, slice_index, slice_index_or}
use Rattle.sha256.specs.declared.block.State.{State}

infixl 65 ◌⊞◌
-- ---- words: 2.2.2 and 3.2

abbrev pub ◌⊞◌ : ℕ → ℕ → ℕ
x ⊞ y = (x + y) % 2 ^ 32

-- a shift to the left drops the bits that leave the word
abbrev pub rotr : ℕ → ℕ → ℕ
rotr n x = bit_or (x / 2 ^ n) (x * 2 ^ (32 - n) % 2 ^ 32)

abbrev pub shr : ℕ → ℕ → ℕ
shr n x = x / 2 ^ n

abbrev pub complement : ℕ → ℕ
complement x = 2 ^ 32 - 1 - x

-- ---- the six functions: 4.1.2

abbrev pub ch : ℕ → ℕ → ℕ → ℕ
ch x y z = bit_xor (bit_and x y) (bit_and (complement x) z)

abbrev pub maj : ℕ → ℕ → ℕ → ℕ
maj x y z = bit_xor (bit_xor (bit_and x y) (bit_and x z)) (bit_and y z)

unfoldable pub Σ₀ : ℕ → ℕ
Σ₀ x = bit_xor (bit_xor (rotr 2 x) (rotr 13 x)) (rotr 22 x)

unfoldable pub Σ₁ : ℕ → ℕ
Σ₁ x = bit_xor (bit_xor (rotr 6 x) (rotr 11 x)) (rotr 25 x)

unfoldable pub σ₀ : ℕ → ℕ
σ₀ x = bit_xor (bit_xor (rotr 7 x) (rotr 18 x)) (shr 3 x)

unfoldable pub σ₁ : ℕ → ℕ
σ₁ x = bit_xor (bit_xor (rotr 17 x) (rotr 19 x)) (shr 10 x)

-- ---- the 64 constants: 4.2.2

unfoldable pub constants : List ℕ
constants =
    0x428a2f98 ∷ 0x71374491 ∷ 0xb5c0fbcf ∷ 0xe9b5dba5 ∷ 0x3956c25b ∷ 0x59f111f1 ∷ 0x923f82a4 ∷ 0xab1c5ed5 ∷
    0xd807aa98 ∷ 0x12835b01 ∷ 0x243185be ∷ 0x550c7dc3 ∷ 0x72be5d74 ∷ 0x80deb1fe ∷ 0x9bdc06a7 ∷ 0xc19bf174 ∷
    0xe49b69c1 ∷ 0xefbe4786 ∷ 0x0fc19dc6 ∷ 0x240ca1cc ∷ 0x2de92c6f ∷ 0x4a7484aa ∷ 0x5cb0a9dc ∷ 0x76f988da ∷
    0x983e5152 ∷ 0xa831c66d ∷ 0xb00327c8 ∷ 0xbf597fc7 ∷ 0xc6e00bf3 ∷ 0xd5a79147 ∷ 0x06ca6351 ∷ 0x14292967 ∷
    0x27b70a85 ∷ 0x2e1b2138 ∷ 0x4d2c6dfc ∷ 0x53380d13 ∷ 0x650a7354 ∷ 0x766a0abb ∷ 0x81c2c92e ∷ 0x92722c85 ∷
    0xa2bfe8a1 ∷ 0xa81a664b ∷ 0xc24b8b70 ∷ 0xc76c51a3 ∷ 0xd192e819 ∷ 0xd6990624 ∷ 0xf40e3585 ∷ 0x106aa070 ∷
    0x19a4c116 ∷ 0x1e376c08 ∷ 0x2748774c ∷ 0x34b0bcb5 ∷ 0x391c0cb3 ∷ 0x4ed8aa4a ∷ 0x5b9cca4f ∷ 0x682e6ff3 ∷
    0x748f82ee ∷ 0x78a5636f ∷ 0x84c87814 ∷ 0x8cc70208 ∷ 0x90befffa ∷ 0xa4506ceb ∷ 0xbef9a3f7 ∷ 0xc67178f2 ∷ []

-- ---- a block as words: 5.2.1

unfoldable pub word_at : List ℕ → ℕ → ℕ
word_at m i = ((slice_index m i * 256 + slice_index m (i + 1)) * 256 + slice_index m (i + 2)) * 256 + slice_index m (i + 3)

-- the n words from byte i
unfoldable pub words : List ℕ → ℕ → ℕ → List ℕ
words m i zero = []
words m i (suc n) = words m i n ++ (word_at m (i + 4 * n) ∷ [])

-- ---- the hash computation: 6.2.2

-- W_t, from those before it
unfoldable pub next_word : List ℕ → ℕ → ℕ
next_word w t = σ₁ (slice_index w (t - 2)) ⊞ slice_index_or w (t - 7) 0 ⊞ σ₀ (slice_index w (t - 15)) ⊞ slice_index_or w (t - 16) 0

unfoldable pub with_next : ℕ → List ℕ → List ℕ
with_next t w = w ++ (next_word w t ∷ [])

-- step 1: the message schedule, up to word 16 + n
unfoldable pub schedule : List ℕ → ℕ → List ℕ
schedule block zero = block
schedule block (suc n) = with_next (16 + n) (schedule block n)

-- step 3: a turn
unfoldable pub turn : State → ℕ → ℕ → State
turn s k w =
    let t₁ : ℕ = s.h ⊞ Σ₁ s.e ⊞ ch s.e s.f s.g ⊞ k ⊞ w in
    let t₂ : ℕ = Σ₀ s.a ⊞ maj s.a s.b s.c in
    record { a = t₁ ⊞ t₂; b = s.a; c = s.b; d = s.c; e = s.d ⊞ t₁; f = s.e; g = s.f; h = s.g }

-- steps 2 and 3: the first t turns
unfoldable pub turns : State → List ℕ → ℕ → State
turns s w zero = s
turns s w (suc t) = turn (turns s w t) (slice_index constants t) (slice_index w t)

-- step 4
unfoldable pub added : State → State → State
added s p = record {
  a = s.a ⊞ p.a;
  b = s.b ⊞ p.b;
  c = s.c ⊞ p.c;
  d = s.d ⊞ p.d;
  e = s.e ⊞ p.e;
  f = s.f ⊞ p.f;
  g = s.g ⊞ p.g;
  h = s.h ⊞ p.h;
}

unfoldable pub compress : State → List ℕ → State
compress p block = added (turns p (schedule block 48) 64) p
