-- 80000008h.EBX: AMD64 APM volume 3, Fn8000_0008_EBX.
use Rattle.std.specs.Prelude.{List, [], ◌∷◌, ℕ}

pub data ExtendedAddressSpaceSizesEbx : Type 0 where
  cl_zero inst_ret_cnt_msr x_save_er_ptr invlpgb rdpru wbnoinvd ibpb ibrs stibp stibp_always_on : ExtendedAddressSpaceSizesEbx
  efer_lmsle_unsupported ssbd psfd btc_no : ExtendedAddressSpaceSizesEbx

-- the bit of each name
abbrev pub position : ExtendedAddressSpaceSizesEbx → ℕ
position cl_zero = 0
position inst_ret_cnt_msr = 1
position x_save_er_ptr = 2
position invlpgb = 3
position rdpru = 4
position wbnoinvd = 9
position ibpb = 12
position ibrs = 14
position stibp = 15
position stibp_always_on = 17
position efer_lmsle_unsupported = 20
position ssbd = 24
position psfd = 28
position btc_no = 29

-- kept by snp.rs; masking.rs keeps none
abbrev pub kept : List ExtendedAddressSpaceSizesEbx
kept =
    cl_zero ∷ inst_ret_cnt_msr ∷ x_save_er_ptr ∷ invlpgb ∷ rdpru ∷ wbnoinvd ∷ ibpb ∷ ibrs ∷ stibp ∷ stibp_always_on
    ∷ efer_lmsle_unsupported ∷ ssbd ∷ psfd ∷ btc_no ∷ []
