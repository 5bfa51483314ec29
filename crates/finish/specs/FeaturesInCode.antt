-- The facts that switch feature bits on or off, as the code holds them.
use Rattle.bits.specs.Bits.{has}
use Rattle.x86defs.specs.declared.CpuidResult.{CpuidResult}
use Rattle.x86defs.specs.ExtendedSevFeaturesEax as Sev
use Rattle.checks.specs.ExtendedState.{xss_of}
use Rattle.finish.specs.declared.features.Enabled as Declared
use Rattle.finish.specs.declared.features.YmmClears as DeclaredClears
use Rattle.finish.specs.Finish.{Enabled, YmmClears}

-- the code's settings, as the definition has them
abbrev pub clears_with : DeclaredClears.YmmClears → YmmClears
clears_with y = record {
  version_ecx = y.version_ecx;
  features_ebx = y.features_ebx;
  features_ecx = y.features_ecx;
  extended_version_ecx = y.extended_version_ecx;
}

abbrev pub enabled_with : Declared.Enabled → Enabled
enabled_with e = record { xfem = e.xfem; xss = e.xss; tsc_aux = e.tsc_aux }

abbrev pub enabled_from : CpuidResult → CpuidResult → CpuidResult → Enabled
enabled_from d0 d1 sev = record {
  xfem = d0.eax;
  xss = xss_of d1;
  tsc_aux = has (Sev.position Sev.ExtendedSevFeaturesEax.tsc_aux_virtualization) sev.eax;
}
