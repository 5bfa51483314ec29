-- D.0.EAX, the components of XCR0: AMD64 APM volume 3, Fn0000_000D_EAX_x0.
use Rattle.std.specs.Prelude.{List, [], ◌∷◌, ℕ}

pub data ExtendedStateEnumerationSubleaf0Eax : Type 0 where
  x87 sse avx opmask zmmhi zmm16_31 : ExtendedStateEnumerationSubleaf0Eax

-- the bit of each name
abbrev pub position : ExtendedStateEnumerationSubleaf0Eax → ℕ
position x87 = 0
position sse = 1
position avx = 2
position opmask = 5
position zmmhi = 6
position zmm16_31 = 7

-- kept by masking.rs
abbrev pub kept : List ExtendedStateEnumerationSubleaf0Eax
kept = x87 ∷ sse ∷ avx ∷ opmask ∷ zmmhi ∷ zmm16_31 ∷ []
