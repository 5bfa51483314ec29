-- Document 01, "Corners of mod.rs": what becomes of each row. A row's final value depends on its masked entry and on one record of what
-- rows need from each other, the clears of the AVX rule's edition among it (document 02, P7).
use Rattle.std.specs.Prelude.{Bool, true, ◌&&◌, [], ◌∷◌, ℕ, ◌-◌, eqb, ltb, leb}
use Rattle.std.specs.Int.Bits.{bit_or}
use Rattle.bits.specs.Choice.{pick}
use Rattle.bits.specs.Bits.{has, mask_of, clear_unless}
use Rattle.x86defs.specs.declared.CpuidResult.{CpuidResult}
use Rattle.x86defs.specs.Functions.{cpuid_result, AmdMaximum, ExtendedAmdMaximum, vendor_ebx, vendor_ecx, vendor_edx}
use Rattle.x86defs.specs.VersionAndFeaturesEcx as Version
use Rattle.x86defs.specs.ExtendedFeatureSubleaf0Ebx as Ebx7
use Rattle.x86defs.specs.ExtendedFeatureSubleaf0Ecx as Ecx7
use Rattle.x86defs.specs.ExtendedFeatureSubleaf0Edx as Edx7
use Rattle.x86defs.specs.ExtendedVersionAndFeaturesEdx as ExtendedVersion
use Rattle.x86defs.specs.ExtendedAddressSpaceSizesEbx as Sizes
use Rattle.x86defs.specs.ExtendedSevFeaturesEax as Sev
use Rattle.topology.specs.Topology.{topology_of, processors, thread_level, core_level}
use Rattle.masking.specs.Place
use Rattle.table.specs.Edition.{bits_between}
use Rattle.table.specs.Rows.{Row, Rows, row, vacant}
use Rattle.checks.specs.ExtendedState.{xfem, xss, save_area}
use Rattle.checks.specs.TopologyInputs.{inputs_of}

-- the rows that are made here
pub data Made : Type 0 where
  vendor_and_max_function extended_max_function : Made

-- the rows of required leaves, by what becomes of their entries
pub data Needed : Type 0 where
  version_and_features extended_features thread_level_row core_level_row extended_state0 extended_state1 : Needed
  extended_version_and_features extended_address_space_sizes untouched : Needed

-- which rule a place falls under; D.k is a component, k from 2 up
pub data Rule : Type 0 where
  made : Made → Rule
  needed : Needed → Rule
  component : ℕ → Rule

abbrev needed_at : ℕ → Needed
needed_at i =
    pick (eqb i Place.version_and_features) version_and_features
    (pick (eqb i Place.extended_features) extended_features
    (pick (eqb i Place.thread_level) thread_level_row
    (pick (eqb i Place.core_level) core_level_row
    (pick (eqb i (Place.extended_state 0)) extended_state0
    (pick (eqb i (Place.extended_state 1)) extended_state1
    (pick (eqb i Place.extended_version_and_features) extended_version_and_features
    (pick (eqb i Place.extended_address_space_sizes) extended_address_space_sizes untouched)))))))

abbrev pub rule_at : ℕ → Rule
rule_at i =
    pick (leb (Place.extended_state 2) i && ltb i (Place.extended_state 64)) (component (i - Place.extended_state 0))
    (pick (eqb i Place.vendor_and_max_function) (made vendor_and_max_function)
    (pick (eqb i Place.extended_max_function) (made extended_max_function) (needed (needed_at i))))

-- the facts that switch feature bits of other rows on or off: the two state masks, and whether TSC_AUX is virtualised
pub record Enabled : Type 0 where
  pub xfem : ℕ
  pub xss : ℕ
  pub tsc_aux : Bool

-- the bits cleared where the YMM state is absent, as a mask of each register
pub record YmmClears : Type 0 where
  pub version_ecx : ℕ
  pub features_ebx : ℕ
  pub features_ecx : ℕ
  pub extended_version_ecx : ℕ

-- what rows need from each other
pub record Settings : Type 0 where
  pub clears : YmmClears
  pub enabled : Enabled
  pub save_area : ℕ
  pub threads : CpuidResult
  pub cores : CpuidResult

unfoldable pub enabled_by : Rows → Enabled
enabled_by m = record {
  xfem = xfem m;
  xss = xss m;
  tsc_aux = has (Sev.position Sev.ExtendedSevFeaturesEax.tsc_aux_virtualization) (m Place.extended_sev_features).result.eax;
}

-- Document 01: "Without XFEM bit 2: clear 1.ECX 10001000h, 7.0.EBX 20h, 7.0.ECX 700h", which is edition 1 of the rule
unfoldable pub edition1 : YmmClears
edition1 = record {
  version_ecx = mask_of Version.position (Version.VersionAndFeaturesEcx.fma ∷ Version.VersionAndFeaturesEcx.avx ∷ []);
  features_ebx = mask_of Ebx7.position (Ebx7.ExtendedFeatureSubleaf0Ebx.avx2 ∷ []);
  features_ecx =
      mask_of Ecx7.position
      (Ecx7.ExtendedFeatureSubleaf0Ecx.gfni ∷ Ecx7.ExtendedFeatureSubleaf0Ecx.vaes ∷ Ecx7.ExtendedFeatureSubleaf0Ecx.vpclmulqdq ∷ []);
  extended_version_ecx = 0;
}

-- the clears of an edition by its number: those of edition 1, and the bits of the editions after it (crates/table/specs/Edition.antt). A number that is
-- no edition is refused before a row is made (crates/build/specs/Build.antt, `edition_verdict`).
unfoldable pub ymm_clears : ℕ → YmmClears
ymm_clears n = record {
  version_ecx = bit_or (bits_between 1 n).version_ecx edition1.version_ecx;
  features_ebx = edition1.features_ebx;
  features_ecx = edition1.features_ecx;
  extended_version_ecx = (bits_between 1 n).extended_version_ecx;
}

-- n is the edition
unfoldable pub settings : ℕ → Rows → Settings
settings n m = record {
  clears = ymm_clears n;
  enabled = enabled_by m;
  save_area = save_area m (xfem m);
  threads = thread_level (inputs_of m).t;
  cores = core_level (processors (topology_of (inputs_of m)));
}

-- XFEM has bit 2; it has bits 2, 5, 6 and 7; XSS has bits 11 and 12 both
abbrev pub has_ymm : Enabled → Bool
has_ymm c = has 2 c.xfem

abbrev pub has_avx512 : Enabled → Bool
has_avx512 c = has 2 c.xfem && (has 5 c.xfem && (has 6 c.xfem && has 7 c.xfem))

abbrev pub has_cet : Enabled → Bool
has_cet c = has 11 c.xss && has 12 c.xss

-- the other clear masks, by named bits
unfoldable pub avx512_features_ebx : ℕ
avx512_features_ebx =
    mask_of Ebx7.position
    (Ebx7.ExtendedFeatureSubleaf0Ebx.avx512f
    ∷ Ebx7.ExtendedFeatureSubleaf0Ebx.avx512dq
    ∷ Ebx7.ExtendedFeatureSubleaf0Ebx.avx512_ifma
    ∷ Ebx7.ExtendedFeatureSubleaf0Ebx.avx512cd
    ∷ Ebx7.ExtendedFeatureSubleaf0Ebx.avx512bw
    ∷ Ebx7.ExtendedFeatureSubleaf0Ebx.avx512vl
    ∷ [])

unfoldable pub avx512_features_ecx : ℕ
avx512_features_ecx =
    mask_of Ecx7.position
    (Ecx7.ExtendedFeatureSubleaf0Ecx.avx512_vbmi
    ∷ Ecx7.ExtendedFeatureSubleaf0Ecx.avx512_vbmi2
    ∷ Ecx7.ExtendedFeatureSubleaf0Ecx.avx512_vnni
    ∷ Ecx7.ExtendedFeatureSubleaf0Ecx.avx512_bitalg
    ∷ Ecx7.ExtendedFeatureSubleaf0Ecx.avx512_vpopcntdq
    ∷ [])

unfoldable pub avx512_features_edx : ℕ
avx512_features_edx =
    mask_of Edx7.position (Edx7.ExtendedFeatureSubleaf0Edx.avx512_vp2_intersect ∷ Edx7.ExtendedFeatureSubleaf0Edx.avx512_fp16 ∷ [])

unfoldable pub cet_ss : ℕ
cet_ss = mask_of Ecx7.position (Ecx7.ExtendedFeatureSubleaf0Ecx.cet_ss ∷ [])

unfoldable pub rd_pid : ℕ
rd_pid = mask_of Ecx7.position (Ecx7.ExtendedFeatureSubleaf0Ecx.rd_pid ∷ [])

unfoldable pub rdtscp : ℕ
rdtscp = mask_of ExtendedVersion.position (ExtendedVersion.ExtendedVersionAndFeaturesEdx.rdtscp ∷ [])

unfoldable pub ibrs_and_stibp : ℕ
ibrs_and_stibp = mask_of Sizes.position (Sizes.ExtendedAddressSpaceSizesEbx.ibrs ∷ Sizes.ExtendedAddressSpaceSizesEbx.stibp ∷ [])

unfoldable pub btc_no : ℕ
btc_no = mask_of Sizes.position (Sizes.ExtendedAddressSpaceSizesEbx.btc_no ∷ [])

unfoldable pub hypervisor_present : ℕ
hypervisor_present = mask_of Version.position (Version.VersionAndFeaturesEcx.hypervisor_present_lem ∷ [])

-- the registers of each feature leaf, each a function of its masked value
unfoldable pub version_ecx : YmmClears → Enabled → ℕ → ℕ
version_ecx y c x = bit_or (clear_unless (has_ymm c) y.version_ecx x) hypervisor_present

unfoldable pub features_ebx : YmmClears → Enabled → ℕ → ℕ
features_ebx y c x = clear_unless (has_avx512 c) avx512_features_ebx (clear_unless (has_ymm c) y.features_ebx x)

unfoldable pub features_ecx : YmmClears → Enabled → ℕ → ℕ
features_ecx y c x =
    clear_unless c.tsc_aux rd_pid
    (clear_unless (has_avx512 c) avx512_features_ecx (clear_unless (has_ymm c) y.features_ecx (clear_unless (has_cet c) cet_ss x)))

unfoldable pub features_edx : Enabled → ℕ → ℕ
features_edx c x = clear_unless (has_avx512 c) avx512_features_edx x

unfoldable pub extended_version_ecx : YmmClears → Enabled → ℕ → ℕ
extended_version_ecx y c x = clear_unless (has_ymm c) y.extended_version_ecx x

unfoldable pub extended_version_edx : Enabled → ℕ → ℕ
extended_version_edx c x = clear_unless c.tsc_aux rdtscp x

-- without IBPB (bit 12) neither IBRS nor STIBP; BTC_NO is always set
unfoldable pub address_sizes_ebx : ℕ → ℕ
address_sizes_ebx x = clear_unless (has (Sizes.position Sizes.ExtendedAddressSpaceSizesEbx.ibpb) x) ibrs_and_stibp (bit_or x btc_no)

-- "If XSS is 0, D.1.ECX and D.1.EDX become 0"
unfoldable pub unless_no_xss : Enabled → ℕ → ℕ
unless_no_xss c x = pick (eqb c.xss 0) 0 x

-- "Rows 0 and 80000000h are made here"
abbrev pub make_row : Made → CpuidResult
make_row vendor_and_max_function = cpuid_result AmdMaximum vendor_ebx vendor_ecx vendor_edx
make_row extended_max_function = cpuid_result ExtendedAmdMaximum vendor_ebx vendor_ecx vendor_edx

-- the registers of a required row, from its entry's
abbrev pub change_row : Settings → Needed → CpuidResult → CpuidResult
change_row c version_and_features r = cpuid_result r.eax r.ebx (version_ecx c.clears c.enabled r.ecx) r.edx
change_row c extended_features r =
    cpuid_result r.eax (features_ebx c.clears c.enabled r.ebx) (features_ecx c.clears c.enabled r.ecx)
    (features_edx c.enabled r.edx)
change_row c thread_level_row r = c.threads
change_row c core_level_row r = c.cores
change_row c extended_state0 r = cpuid_result r.eax r.ebx c.save_area r.edx
change_row c extended_state1 r = cpuid_result r.eax r.ebx (unless_no_xss c.enabled r.ecx) (unless_no_xss c.enabled r.edx)
change_row c extended_version_and_features r =
    cpuid_result r.eax r.ebx (extended_version_ecx c.clears c.enabled r.ecx) (extended_version_edx c.enabled r.edx)
change_row c extended_address_space_sizes r = cpuid_result r.eax (address_sizes_ebx r.ebx) r.ecx r.edx
change_row c untouched r = r

-- the registers of a row under its rule
abbrev pub finish : Settings → Rule → CpuidResult → CpuidResult
finish c (made t) r = make_row t
finish c (needed t) r = change_row c t r
finish c (component k) r = r

-- whether a row is in the table, from whether its entry was there: rows 0 and 80000000h always; "subleaves from 2 up without their bit
-- are dropped"
abbrev pub remains : Settings → Rule → Bool → Bool
remains c (made t) p = true
remains c (needed t) p = p
remains c (component k) p = has k (bit_or c.enabled.xfem c.enabled.xss) && p

-- a row of the table; one that is not there is all zeros
abbrev pub finish_row : Settings → Rule → Row → Row
finish_row c t r = pick (remains c t r.present) (row (finish c t r.result)) vacant

-- the rows of an accepted table under edition n
unfoldable pub finished : ℕ → Rows → Rows
finished n m i = finish_row (settings n m) (rule_at i) (m i)
