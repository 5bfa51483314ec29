-- 7.0.EDX: AMD64 APM volume 3, Fn0000_0007_EDX_x0; serialize and avx512_fp16 from the Intel SDM, CPUID leaf 07H.
use Rattle.std.specs.Prelude.{List, [], ◌∷◌, ℕ}

pub data ExtendedFeatureSubleaf0Edx : Type 0 where
  fast_short_rep_move avx512_vp2_intersect serialize avx512_fp16 : ExtendedFeatureSubleaf0Edx

-- the bit of each name
abbrev pub position : ExtendedFeatureSubleaf0Edx → ℕ
position fast_short_rep_move = 4
position avx512_vp2_intersect = 8
position serialize = 14
position avx512_fp16 = 23

-- kept by masking.rs
abbrev pub kept : List ExtendedFeatureSubleaf0Edx
kept = fast_short_rep_move ∷ avx512_vp2_intersect ∷ serialize ∷ avx512_fp16 ∷ []
