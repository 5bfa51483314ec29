-- SHA-256, from FIPS 180-4, whose section numbers stand at each part. A message is a list of bytes.
use Rattle.std.specs.Prelude.{ℕ, zero, suc, ◌-◌, ◌*◌, ◌/◌, ◌%◌, ◌^◌, List, [], ◌∷◌, ◌++◌, length, replicate}
use Rattle.sha256.specs.declared.block.State.{State}
use Rattle.sha256.specs.Block.{words, compress}

-- ---- padding to whole blocks of 64 bytes: 5.1.1

-- a number's lowest n bytes, the highest first
unfoldable pub big_endian : ℕ → ℕ → List ℕ
big_endian zero x = []
big_endian (suc n) x = x / 256 ^ n % 256 ∷ big_endian n x

-- what follows a message of n bytes: a one bit, zero bits up to 8 bytes before the end of a block, and the message's length in bits.
-- Of that length the lowest 64 bits: all of it below 2^61 bytes, and the standard has no longer messages
unfoldable pub padding : ℕ → List ℕ
padding n = 128 ∷ replicate ((119 - n % 64) % 64) 0 ++ big_endian 8 (8 * n)

unfoldable pub padded : List ℕ → List ℕ
padded m = m ++ padding (length m)

-- ---- the initial hash value: 5.3.3

unfoldable pub initial : State
initial = record {
  a = 0x6a09e667;
  b = 0xbb67ae85;
  c = 0x3c6ef372;
  d = 0xa54ff53a;
  e = 0x510e527f;
  f = 0x9b05688c;
  g = 0x1f83d9ab;
  h = 0x5be0cd19;
}

-- ---- the hash computation: 6.2.2

-- the hash value after the first i blocks
unfoldable pub hashed : List ℕ → ℕ → State
hashed m zero = initial
hashed m (suc i) = compress (hashed m i) (words m (64 * i) 16)

-- ---- the digest

unfoldable pub digest_of : State → List ℕ
digest_of s =
    big_endian 4 s.a ++ big_endian 4 s.b ++ big_endian 4 s.c ++ big_endian 4 s.d
    ++ big_endian 4 s.e ++ big_endian 4 s.f ++ big_endian 4 s.g ++ big_endian 4 s.h

unfoldable pub sha256 : List ℕ → List ℕ
sha256 m = digest_of (hashed (padded m) (length (padded m) / 64))
