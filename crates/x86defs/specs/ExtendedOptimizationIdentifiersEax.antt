-- 8000001Ah.EAX: AMD64 APM volume 3, Fn8000_001A_EAX.
use Rattle.std.specs.Prelude.{List, [], ◌∷◌, ℕ}

pub data ExtendedOptimizationIdentifiersEax : Type 0 where
  fp128 mov_u fp256 : ExtendedOptimizationIdentifiersEax

-- the bit of each name
abbrev pub position : ExtendedOptimizationIdentifiersEax → ℕ
position fp128 = 0
position mov_u = 1
position fp256 = 2

-- kept by snp.rs
abbrev pub kept : List ExtendedOptimizationIdentifiersEax
kept = fp128 ∷ mov_u ∷ fp256 ∷ []
