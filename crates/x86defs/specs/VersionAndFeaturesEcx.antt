-- 1.ECX: AMD64 APM volume 3, Fn0000_0001_ECX; PCID from the Intel SDM, CPUID leaf 01H.
use Rattle.std.specs.Prelude.{List, [], ◌∷◌, ℕ}

pub data VersionAndFeaturesEcx : Type 0 where
  sse3 pclmulqdq ssse3 fma cx16 pcid sse4_1 sse4_2 movbe pop_cnt aes xsave os_xsave avx f16c rd_rand : VersionAndFeaturesEcx
  hypervisor_present_lem : VersionAndFeaturesEcx

-- the bit of each name
abbrev pub position : VersionAndFeaturesEcx → ℕ
position sse3 = 0
position pclmulqdq = 1
position ssse3 = 9
position fma = 12
position cx16 = 13
position pcid = 17
position sse4_1 = 19
position sse4_2 = 20
position movbe = 22
position pop_cnt = 23
position aes = 25
position xsave = 26
position os_xsave = 27
position avx = 28
position f16c = 29
position rd_rand = 30
position hypervisor_present_lem = 31

-- kept by masking.rs; hypervisor_present_lem is set here and never read from a page
abbrev pub kept : List VersionAndFeaturesEcx
kept =
    sse3 ∷ pclmulqdq ∷ ssse3 ∷ fma ∷ cx16 ∷ pcid ∷ sse4_1 ∷ sse4_2 ∷ movbe ∷ pop_cnt ∷ aes ∷ xsave ∷ os_xsave ∷ avx ∷ f16c
    ∷ rd_rand ∷ []
