-- The join and the test by masks are those by kinds, of registers of 32 bits.
use Rattle.std.specs.Prelude.{◌≡◌, refl, Bool, ◌&&◌, ℕ, ◌-◌, ◌^◌, ◌<◌}
use Rattle.std.proofs.Common.{ap, ap₂, ◌∙◌}
use Rattle.std.specs.Int.Bits.{bit_and, bit_or, or_zero_r}
use Rattle.bits.specs.BitsLaws.{within_trans, within_of_and, and_of_within, or_within_right}
use Rattle.x86defs.specs.declared.CpuidResult.{CpuidResult}
use Rattle.x86defs.specs.Functions.{cpuid_result}
use Rattle.table.specs.Fits.{Fits}
use Rattle.finish.specs.Kinds.{Kind, Kinds}
use Rattle.finish.specs.Kinds.Kind.{feature, feature_but28, area, freed, other}
use Rattle.register_masks.specs.declared.RowMasks.{RowMasks}
use Rattle.register_masks.specs.RegisterMasks.{feature_bits, agreed_bits, masks_of}
use Rattle.register_masks.specs.RegisterMaskLaws.{agree, whole, none_agreed, bit_28_agreed, all_agreed}
use Rattle.register_masks.specs.Join.{joined_register, pooled_results}
use Rattle.register_masks.specs.Alike.{alike_test, registers_alike}

-- ---- as the code has them: f has the feature bits, m those that must agree

abbrev pub joined_bits : ℕ → ℕ → ℕ → ℕ
joined_bits f a b = bit_and a (bit_or b (2 ^ 32 - 1 - f))

abbrev pub joined_by : CpuidResult → CpuidResult → CpuidResult → CpuidResult
joined_by f a b =
    cpuid_result (joined_bits f.eax a.eax b.eax) (joined_bits f.ebx a.ebx b.ebx) (joined_bits f.ecx a.ecx b.ecx)
    (joined_bits f.edx a.edx b.edx)

abbrev pub same_bits : CpuidResult → CpuidResult → CpuidResult → Bool
same_bits m a b =
    agree m.eax a.eax b.eax
    && (agree m.ebx a.ebx b.ebx && (agree m.ecx a.ecx b.ecx && agree m.edx a.edx b.edx))

-- ---- a register

-- where there are no features the register stays
stays : (a b : ℕ) → a < 2 ^ 32 → bit_and a (bit_or b (2 ^ 32 - 1)) ≡ a
stays a b h = and_of_within (within_trans (within_of_and (whole a h)) (or_within_right b (2 ^ 32 - 1)))

joins : (k : Kind) (a b : ℕ) → a < 2 ^ 32 → joined_bits (feature_bits k) a b ≡ joined_register k a b
joins feature a b h = ap (bit_and a) (or_zero_r b)
joins feature_but28 a b h = refl
joins area a b h = stays a b h
joins freed a b h = stays a b h
joins other a b h = stays a b h

agrees : (k : Kind) (a b : ℕ) → a < 2 ^ 32 → b < 2 ^ 32 → agree (agreed_bits k) a b ≡ alike_test k a b
agrees feature a b h l = none_agreed a b
agrees feature_but28 a b h l = bit_28_agreed a b
agrees area a b h l = none_agreed a b
agrees freed a b h l = none_agreed a b
agrees other a b h l = all_agreed a b h l

-- ---- a row, by its masks m

module _ (m : RowMasks) (a b : CpuidResult) (f : Fits a) (g : Fits b) (k : Kinds) (e : m ≡ masks_of k) where
  pub joined_by_kind : joined_by m.features a b ≡ pooled_results k a b
  joined_by_kind =
      ap (λ (n : RowMasks). joined_by n.features a b) e
      ∙ (λ t. cpuid_result (joins k.eax a.eax b.eax f.eax t) (joins k.ebx a.ebx b.ebx f.ebx t)
      (joins k.ecx a.ecx b.ecx f.ecx t) (joins k.edx a.edx b.edx f.edx t))

  pub alike_by_kind : same_bits m.agreed a b ≡ registers_alike k a b
  alike_by_kind =
      ap (λ (n : RowMasks). same_bits n.agreed a b) e
      ∙ ap₂ ◌&&◌ (agrees k.eax _ _ f.eax g.eax)
      (ap₂ ◌&&◌ (agrees k.ebx _ _ f.ebx g.ebx)
      (ap₂ ◌&&◌ (agrees k.ecx _ _ f.ecx g.ecx) (agrees k.edx _ _ f.edx g.edx)))
