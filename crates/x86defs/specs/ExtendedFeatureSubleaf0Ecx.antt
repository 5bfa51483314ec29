-- 7.0.ECX: AMD64 APM volume 3, Fn0000_0007_ECX_x0; umwait_tpause and cldemote from the Intel SDM, CPUID leaf 07H.
use Rattle.std.specs.Prelude.{List, [], ◌∷◌, ℕ}

pub data ExtendedFeatureSubleaf0Ecx : Type 0 where
  avx512_vbmi umip umwait_tpause avx512_vbmi2 cet_ss gfni vaes vpclmulqdq avx512_vnni avx512_bitalg : ExtendedFeatureSubleaf0Ecx
  avx512_vpopcntdq rd_pid cldemote movdiri movdir64b : ExtendedFeatureSubleaf0Ecx

-- the bit of each name
abbrev pub position : ExtendedFeatureSubleaf0Ecx → ℕ
position avx512_vbmi = 1
position umip = 2
position umwait_tpause = 5
position avx512_vbmi2 = 6
position cet_ss = 7
position gfni = 8
position vaes = 9
position vpclmulqdq = 10
position avx512_vnni = 11
position avx512_bitalg = 12
position avx512_vpopcntdq = 14
position rd_pid = 22
position cldemote = 25
position movdiri = 27
position movdir64b = 28

-- kept by masking.rs
abbrev pub kept : List ExtendedFeatureSubleaf0Ecx
kept =
    avx512_vbmi ∷ umip ∷ umwait_tpause ∷ avx512_vbmi2 ∷ cet_ss ∷ gfni ∷ vaes ∷ vpclmulqdq ∷ avx512_vnni ∷ avx512_bitalg
    ∷ avx512_vpopcntdq ∷ rd_pid ∷ cldemote ∷ movdiri ∷ movdir64b ∷ []
