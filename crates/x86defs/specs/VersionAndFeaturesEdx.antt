-- 1.EDX: AMD64 APM volume 3, Fn0000_0001_EDX. mt_per_socket is the bit that the APM calls HTT.
use Rattle.std.specs.Prelude.{List, [], ◌∷◌, ℕ}

pub data VersionAndFeaturesEdx : Type 0 where
  fpu vme de pse tsc msr pae mce cx8 apic sep mtrr pge mca cmov pat pse36 cl_fsh mmx fxsr sse sse2 mt_per_socket : VersionAndFeaturesEdx

-- the bit of each name
abbrev pub position : VersionAndFeaturesEdx → ℕ
position fpu = 0
position vme = 1
position de = 2
position pse = 3
position tsc = 4
position msr = 5
position pae = 6
position mce = 7
position cx8 = 8
position apic = 9
position sep = 11
position mtrr = 12
position pge = 13
position mca = 14
position cmov = 15
position pat = 16
position pse36 = 17
position cl_fsh = 19
position mmx = 23
position fxsr = 24
position sse = 25
position sse2 = 26
position mt_per_socket = 28

-- kept by masking.rs
abbrev pub kept : List VersionAndFeaturesEdx
kept =
    fpu ∷ vme ∷ de ∷ pse ∷ tsc ∷ msr ∷ pae ∷ mce ∷ cx8 ∷ apic ∷ sep ∷ mtrr ∷ pge ∷ mca ∷ cmov ∷ pat ∷ pse36 ∷ cl_fsh ∷ mmx
    ∷ fxsr ∷ sse ∷ sse2 ∷ mt_per_socket ∷ []
