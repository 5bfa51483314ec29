-- 80000001h.EDX: AMD64 APM volume 3, Fn8000_0001_EDX.
use Rattle.std.specs.Prelude.{List, [], ◌∷◌, ℕ}

pub data ExtendedVersionAndFeaturesEdx : Type 0 where
  fpu vme de pse tsc msr pae mce cx8 apic syscall mtrr pge mca cmov pat pse36 no_execute amd_mmx mmx fxsr : ExtendedVersionAndFeaturesEdx
  fast_fxsr page_1gb rdtscp long_mode extended3d_now amd3d_now : ExtendedVersionAndFeaturesEdx

-- the bit of each name
abbrev pub position : ExtendedVersionAndFeaturesEdx → ℕ
position fpu = 0
position vme = 1
position de = 2
position pse = 3
position tsc = 4
position msr = 5
position pae = 6
position mce = 7
position cx8 = 8
position apic = 9
position syscall = 11
position mtrr = 12
position pge = 13
position mca = 14
position cmov = 15
position pat = 16
position pse36 = 17
position no_execute = 20
position amd_mmx = 22
position mmx = 23
position fxsr = 24
position fast_fxsr = 25
position page_1gb = 26
position rdtscp = 27
position long_mode = 29
position extended3d_now = 30
position amd3d_now = 31

-- kept by masking.rs
abbrev pub kept : List ExtendedVersionAndFeaturesEdx
kept =
    fpu ∷ vme ∷ de ∷ pse ∷ tsc ∷ msr ∷ pae ∷ mce ∷ cx8 ∷ apic ∷ syscall ∷ mtrr ∷ pge ∷ mca ∷ cmov ∷ pat ∷ pse36
    ∷ no_execute ∷ amd_mmx ∷ mmx ∷ fxsr ∷ page_1gb ∷ rdtscp ∷ long_mode ∷ extended3d_now ∷ amd3d_now ∷ []

-- kept by snp.rs besides
abbrev pub kept_by_snp : List ExtendedVersionAndFeaturesEdx
kept_by_snp = fast_fxsr ∷ []
