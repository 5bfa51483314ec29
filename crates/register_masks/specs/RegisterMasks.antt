-- The kinds of registers as two masks: the bits that are features, and the bits in which two servers' entries must agree.
use Rattle.std.specs.Prelude.{ℕ, ◌-◌, ◌^◌}
use Rattle.x86defs.specs.Functions.{cpuid_result}
use Rattle.finish.specs.Kinds.{Kind, Kinds}
use Rattle.finish.specs.Kinds.Kind.{feature, feature_but28, area, freed, other}
use Rattle.register_masks.specs.declared.RowMasks.{RowMasks}

abbrev pub feature_bits : Kind → ℕ
feature_bits feature = 2 ^ 32 - 1
feature_bits feature_but28 = 2 ^ 32 - 1 - 2 ^ 28
feature_bits area = 0
feature_bits freed = 0
feature_bits other = 0

abbrev pub agreed_bits : Kind → ℕ
agreed_bits feature = 0
agreed_bits feature_but28 = 2 ^ 28
agreed_bits area = 0
agreed_bits freed = 0
agreed_bits other = 2 ^ 32 - 1

abbrev pub masks_of : Kinds → RowMasks
masks_of k = record {
  features = cpuid_result (feature_bits k.eax) (feature_bits k.ebx) (feature_bits k.ecx) (feature_bits k.edx);
  agreed = cpuid_result (agreed_bits k.eax) (agreed_bits k.ebx) (agreed_bits k.ecx) (agreed_bits k.edx);
}
