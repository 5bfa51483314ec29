-- The clear masks of document 01 as figures, each computed from its named bits, and the bits that its rules name by place.
use Rattle.std.specs.Prelude.{◌≡◌, refl, List, [], ◌∷◌, ℕ, ◌+◌, ◌^◌}
use Rattle.bits.specs.Bits.{mask_of}
use Rattle.table.specs.Edition.{joined_from, bits_between}
use Rattle.finish.specs.Finish.{YmmClears, edition1, ymm_clears, avx512_features_ebx, avx512_features_ecx, avx512_features_edx, cet_ss, rd_pid, rdtscp, ibrs_and_stibp, btc_no, hypervisor_present}

-- "Without XFEM bit 2: clear 1.ECX 10001000h, 7.0.EBX 20h, 7.0.ECX 700h"; in edition 2 also 1.ECX bit 29 and 80000001h.ECX bits 11 and 16
abbrev pub figures : YmmClears → List ℕ
figures y = y.version_ecx ∷ y.features_ebx ∷ y.features_ecx ∷ y.extended_version_ecx ∷ []

pub ymm_figures : figures (ymm_clears 1) ≡ 0x10001000 ∷ 0x20 ∷ 0x700 ∷ 0 ∷ []
unfolding ymm_clears bits_between joined_from edition1 mask_of
ymm_figures = refl

pub ymm_figures_2 : figures (ymm_clears 2) ≡ (0x10001000 + 2 ^ 29) ∷ 0x20 ∷ 0x700 ∷ (2 ^ 11 + 2 ^ 16) ∷ []
unfolding ymm_clears bits_between joined_from edition1 mask_of
ymm_figures_2 = refl

-- "clear 7.0.EBX D0230000h, 7.0.ECX 5842h, 7.0.EDX 800100h"
pub avx512_figures : avx512_features_ebx ∷ avx512_features_ecx ∷ avx512_features_edx ∷ [] ≡ 0xD0230000 ∷ 0x5842 ∷ 0x800100 ∷ []
unfolding avx512_features_ebx avx512_features_ecx avx512_features_edx mask_of
avx512_figures = refl

-- 7.0.ECX bit 7 (CET_SS) and bit 22; 80000001h.EDX bit 27; 80000008h.EBX bits 14 and 15, and 29 (BTC_NO); 1.ECX bit 31
pub bit_figures :
    cet_ss ∷ rd_pid ∷ rdtscp ∷ ibrs_and_stibp ∷ btc_no ∷ hypervisor_present ∷ [] ≡ 2 ^ 7 ∷ 2 ^ 22 ∷ 2 ^ 27 ∷ 0xC000 ∷ 2 ^ 29 ∷ 2 ^ 31 ∷ []
unfolding cet_ss rd_pid rdtscp ibrs_and_stibp btc_no hypervisor_present mask_of
bit_figures = refl
