-- `finish::features::extended_features` meets its contract: the code's masks are the definition's figures.
use Rattle.bits.specs.Bits.{mask_of}
use Rattle.finish.specs.Finish.{features_ebx, features_ecx, features_edx, avx512_features_ebx, avx512_features_ecx, avx512_features_edx, cet_ss, rd_pid}
use Rattle.finish.proofs.features.extended_features.Goals as goal

pub returns : goal.returns
unfolding features_ebx features_ecx features_edx avx512_features_ebx avx512_features_ecx avx512_features_edx cet_ss rd_pid mask_of
returns c =
    rw (
      c.clear_unless-edx.ensures,
      c.clear_unless-ecx.ensures,
      c.clear_unless-avx512_ecx.ensures,
      c.clear_unless-ymm_ecx.ensures,
      c.clear_unless-cet_ecx.ensures,
      c.has_cet.ensures,
      c.clear_unless-ebx.ensures,
      c.clear_unless-ymm_ebx.ensures,
      c.has_avx512-avx512.ensures,
      c.has_ymm-ymm.ensures,
    )
