-- D.1.ECX, the components of XSS: AMD64 APM volume 3, Fn0000_000D_ECX_x1 (CET_U and CET_S).
use Rattle.std.specs.Prelude.{List, [], ◌∷◌, ℕ}

pub data ExtendedStateEnumerationSubleaf1Ecx : Type 0 where
  cet_u cet_s : ExtendedStateEnumerationSubleaf1Ecx

-- the bit of each name
abbrev pub position : ExtendedStateEnumerationSubleaf1Ecx → ℕ
position cet_u = 11
position cet_s = 12

-- kept by masking.rs
abbrev pub kept : List ExtendedStateEnumerationSubleaf1Ecx
kept = cet_u ∷ cet_s ∷ []
