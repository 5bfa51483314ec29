-- 8000001Fh.EAX: AMD64 APM volume 3, Fn8000_001F_EAX.
use Rattle.std.specs.Prelude.{List, [], ◌∷◌, ℕ}

pub data ExtendedSevFeaturesEax : Type 0 where
  sme sev vmpage_flush_msr_available sev_es sev_snp vmpl rmp_query tsc_aux_virtualization secure_avic_bit : ExtendedSevFeaturesEax

-- the bit of each name
abbrev pub position : ExtendedSevFeaturesEax → ℕ
position sme = 0
position sev = 1
position vmpage_flush_msr_available = 2
position sev_es = 3
position sev_snp = 4
position vmpl = 5
position rmp_query = 6
position tsc_aux_virtualization = 9
position secure_avic_bit = 26

-- kept by snp.rs; secure_avic_bit only where the caller chose secure AVIC
abbrev pub kept : List ExtendedSevFeaturesEax
kept = sme ∷ sev ∷ vmpage_flush_msr_available ∷ sev_es ∷ sev_snp ∷ vmpl ∷ rmp_query ∷ tsc_aux_virtualization ∷ []
