-- Leaf numbers under the names of x86defs, from AMD64 APM volume 3, appendix E, and the constants of rows 0 and 80000000h.
use Rattle.std.specs.Prelude.{Bool, ℕ, eqb}
use Rattle.x86defs.specs.declared.CpuidFunction.{CpuidFunction}
use Rattle.x86defs.specs.declared.CpuidResult.{CpuidResult}

abbrev pub function : ℕ → CpuidFunction
function n = record { 0 = n }

abbrev pub same_function : CpuidFunction → CpuidFunction → Bool
same_function a b = eqb a.0 b.0

abbrev pub cpuid_result : ℕ → ℕ → ℕ → ℕ → CpuidResult
cpuid_result a b c d = record { eax = a; ebx = b; ecx = c; edx = d }

abbrev pub VendorAndMaxFunction : CpuidFunction
VendorAndMaxFunction = function 0x00000000

abbrev pub VersionAndFeatures : CpuidFunction
VersionAndFeatures = function 0x00000001

abbrev pub MonitorMwait : CpuidFunction
MonitorMwait = function 0x00000005

abbrev pub ExtendedFeatures : CpuidFunction
ExtendedFeatures = function 0x00000007

abbrev pub ExtendedTopologyEnumeration : CpuidFunction
ExtendedTopologyEnumeration = function 0x0000000B

abbrev pub ExtendedStateEnumeration : CpuidFunction
ExtendedStateEnumeration = function 0x0000000D

abbrev pub ExtendedMaxFunction : CpuidFunction
ExtendedMaxFunction = function 0x80000000

abbrev pub ExtendedVersionAndFeatures : CpuidFunction
ExtendedVersionAndFeatures = function 0x80000001

abbrev pub ExtendedBrandingString1 : CpuidFunction
ExtendedBrandingString1 = function 0x80000002

abbrev pub ExtendedBrandingString2 : CpuidFunction
ExtendedBrandingString2 = function 0x80000003

abbrev pub ExtendedBrandingString3 : CpuidFunction
ExtendedBrandingString3 = function 0x80000004

abbrev pub ExtendedL1CacheParameters : CpuidFunction
ExtendedL1CacheParameters = function 0x80000005

abbrev pub ExtendedL2CacheParameters : CpuidFunction
ExtendedL2CacheParameters = function 0x80000006

abbrev pub ExtendedPowerManagement : CpuidFunction
ExtendedPowerManagement = function 0x80000007

abbrev pub ExtendedAddressSpaceSizes : CpuidFunction
ExtendedAddressSpaceSizes = function 0x80000008

abbrev pub ExtendedSvmVersionAndFeatures : CpuidFunction
ExtendedSvmVersionAndFeatures = function 0x8000000A

abbrev pub ExtendedTlb1GBIdentifiers : CpuidFunction
ExtendedTlb1GBIdentifiers = function 0x80000019

abbrev pub ExtendedOptimizationIdentifiers : CpuidFunction
ExtendedOptimizationIdentifiers = function 0x8000001A

abbrev pub CacheTopologyDefinition : CpuidFunction
CacheTopologyDefinition = function 0x8000001D

abbrev pub ProcessorTopologyDefinition : CpuidFunction
ProcessorTopologyDefinition = function 0x8000001E

abbrev pub ExtendedSevFeatures : CpuidFunction
ExtendedSevFeatures = function 0x8000001F

-- the two maxima, decided in docs/DECISIONS.md: the highest leaf of each range that a table can have
unfoldable pub AmdMaximum : ℕ
AmdMaximum = 0x0000000D

unfoldable pub ExtendedAmdMaximum : ℕ
ExtendedAmdMaximum = 0x8000001F

-- "AuthenticAMD": document 01, "Corners of mod.rs"
abbrev pub vendor_ebx : ℕ
vendor_ebx = 0x68747541

abbrev pub vendor_ecx : ℕ
vendor_ecx = 0x444D4163

abbrev pub vendor_edx : ℕ
vendor_edx = 0x69746E65
