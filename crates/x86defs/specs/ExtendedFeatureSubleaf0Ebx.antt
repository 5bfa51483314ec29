-- 7.0.EBX: AMD64 APM volume 3, Fn0000_0007_EBX_x0; dep_x87_fpu_save from the Intel SDM, CPUID leaf 07H.
use Rattle.std.specs.Prelude.{List, [], ◌∷◌, ℕ}

pub data ExtendedFeatureSubleaf0Ebx : Type 0 where
  rd_wr_fs_gs bmi1 avx2 smep bmi2 enhanced_fast_string inv_pcid dep_x87_fpu_save avx512f avx512dq rd_seed adx : ExtendedFeatureSubleaf0Ebx
  smap avx512_ifma clflushopt clwb avx512cd sha avx512bw avx512vl : ExtendedFeatureSubleaf0Ebx

-- the bit of each name
abbrev pub position : ExtendedFeatureSubleaf0Ebx → ℕ
position rd_wr_fs_gs = 0
position bmi1 = 3
position avx2 = 5
position smep = 7
position bmi2 = 8
position enhanced_fast_string = 9
position inv_pcid = 10
position dep_x87_fpu_save = 13
position avx512f = 16
position avx512dq = 17
position rd_seed = 18
position adx = 19
position smap = 20
position avx512_ifma = 21
position clflushopt = 23
position clwb = 24
position avx512cd = 28
position sha = 29
position avx512bw = 30
position avx512vl = 31

-- kept by masking.rs
abbrev pub kept : List ExtendedFeatureSubleaf0Ebx
kept =
    rd_wr_fs_gs ∷ bmi1 ∷ avx2 ∷ smep ∷ bmi2 ∷ enhanced_fast_string ∷ inv_pcid ∷ dep_x87_fpu_save ∷ avx512f ∷ avx512dq
    ∷ rd_seed ∷ adx ∷ smap ∷ avx512_ifma ∷ clflushopt ∷ clwb ∷ avx512cd ∷ sha ∷ avx512bw ∷ avx512vl ∷ []
