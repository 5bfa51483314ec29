-- Finished registers fit 32 bits where the masked ones do.
use Rattle.std.specs.Prelude.{Bool, true, false, ℕ, ◌^◌, ◌<◌, eqb}
use Rattle.std.proofs.Common.{lit<}
use Rattle.bits.specs.Choice.{pick}
use Rattle.bits.specs.Bits.{mask_of}
use Rattle.bits.specs.WidthLaws.{or_fits, clear_fits}
use Rattle.x86defs.specs.declared.CpuidResult.{CpuidResult}
use Rattle.x86defs.specs.Functions.{AmdMaximum, ExtendedAmdMaximum}
use Rattle.table.specs.Fits.{Fits}
use Rattle.finish.specs.Finish.{Made, Needed, Settings, Enabled, make_row, change_row, version_ecx, features_ebx, features_ecx, features_edx, extended_version_ecx, extended_version_edx, address_sizes_ebx, unless_no_xss, hypervisor_present, btc_no}
use Rattle.finish.specs.Finish.Made.{vendor_and_max_function, extended_max_function}
use Rattle.finish.specs.Finish.Needed.{version_and_features, extended_features, thread_level_row, core_level_row, extended_state0, extended_state1, extended_version_and_features, extended_address_space_sizes, untouched}

-- what rows need from each other fits
pub record SettingsFit (c : Settings) : Type 0 where
  pub area : c.save_area < 2 ^ 32
  pub threads : Fits c.threads
  pub cores : Fits c.cores

unless_fits : (e : Enabled) {x : ℕ} → x < 2 ^ 32 → unless_no_xss e x < 2 ^ 32
unfolding unless_no_xss
unless_fits e {x} h = go (eqb e.xss 0)
  where
    go : (b : Bool) → pick b 0 x < 2 ^ 32
    go true = lit< tt
    go false = h

pub change_fits : (c : Settings) → SettingsFit c → (t : Needed) (r : CpuidResult) → Fits r → Fits (change_row c t r)
unfolding version_ecx features_ebx features_ecx features_edx extended_version_ecx extended_version_edx address_sizes_ebx hypervisor_present btc_no mask_of
change_fits c s version_and_features r f = record { eax = f.eax; ebx = f.ebx; ecx = or_fits (clear_fits _ _ f.ecx) (lit< tt); edx = f.edx }
change_fits c s extended_features r f = record {
  eax = f.eax;
  ebx = clear_fits _ _ (clear_fits _ _ f.ebx);
  ecx = clear_fits _ _ (clear_fits _ _ (clear_fits _ _ (clear_fits _ _ f.ecx)));
  edx = clear_fits _ _ f.edx;
}
change_fits c s thread_level_row r f = s.threads
change_fits c s core_level_row r f = s.cores
change_fits c s extended_state0 r f = record { eax = f.eax; ebx = f.ebx; ecx = s.area; edx = f.edx }
change_fits c s extended_state1 r f = record {
  eax = f.eax;
  ebx = f.ebx;
  ecx = unless_fits c.enabled f.ecx;
  edx = unless_fits c.enabled f.edx;
}
change_fits c s extended_version_and_features r f = record { eax = f.eax; ebx = f.ebx; ecx = clear_fits _ _ f.ecx; edx = clear_fits _ _ f.edx }
change_fits c s extended_address_space_sizes r f = record { eax = f.eax; ebx = clear_fits _ _ (or_fits f.ebx (lit< tt)); ecx = f.ecx; edx = f.edx }
change_fits c s untouched r f = f

pub make_fits : (t : Made) → Fits (make_row t)
unfolding AmdMaximum ExtendedAmdMaximum
make_fits vendor_and_max_function = record { eax = lit< tt; ebx = lit< tt; ecx = lit< tt; edx = lit< tt }
make_fits extended_max_function = record { eax = lit< tt; ebx = lit< tt; ecx = lit< tt; edx = lit< tt }
