-- 80000001h.ECX: AMD64 APM volume 3, Fn8000_0001_ECX.
use Rattle.std.specs.Prelude.{List, [], ◌∷◌, ℕ}

pub data ExtendedVersionAndFeaturesEcx : Type 0 where
  lahf_sahf_available cmp_legacy alt_mov_cr8 abm sse4_a mis_align_sse prefetch ibs xop fma4 topology_extensions : ExtendedVersionAndFeaturesEcx

-- the bit of each name
abbrev pub position : ExtendedVersionAndFeaturesEcx → ℕ
position lahf_sahf_available = 0
position cmp_legacy = 1
position alt_mov_cr8 = 4
position abm = 5
position sse4_a = 6
position mis_align_sse = 7
position prefetch = 8
position ibs = 10
position xop = 11
position fma4 = 16
position topology_extensions = 22

-- kept by masking.rs
abbrev pub kept : List ExtendedVersionAndFeaturesEcx
kept =
    lahf_sahf_available ∷ cmp_legacy ∷ alt_mov_cr8 ∷ abm ∷ sse4_a ∷ mis_align_sse ∷ prefetch ∷ ibs ∷ xop ∷ fma4
    ∷ topology_extensions ∷ []
