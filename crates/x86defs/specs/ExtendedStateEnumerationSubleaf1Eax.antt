-- D.1.EAX: AMD64 APM volume 3, Fn0000_000D_EAX_x1.
use Rattle.std.specs.Prelude.{List, [], ◌∷◌, ℕ}

pub data ExtendedStateEnumerationSubleaf1Eax : Type 0 where
  xsave_opt xsave_c xsave_s : ExtendedStateEnumerationSubleaf1Eax

-- the bit of each name
abbrev pub position : ExtendedStateEnumerationSubleaf1Eax → ℕ
position xsave_opt = 0
position xsave_c = 1
position xsave_s = 3

-- kept by masking.rs
abbrev pub kept : List ExtendedStateEnumerationSubleaf1Eax
kept = xsave_opt ∷ xsave_c ∷ xsave_s ∷ []
