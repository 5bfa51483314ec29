-- What the theorems say of feature registers: which are the and of servers 0 to n, and which lie within another's.
use Rattle.std.specs.Prelude.{◌≡◌, ℕ}
use Rattle.bits.specs.Bits.{Within}
use Rattle.x86defs.specs.declared.CpuidResult.{CpuidResult}
use Rattle.finish.specs.Kinds.{Kind, Kinds}
use Rattle.finish.specs.Kinds.Kind.{feature, feature_but28, area, freed, other}
use Rattle.register_masks.specs.Join.{and_to}

-- z is the and of x 0 to x n where the register holds features
abbrev pub FeatureIs : Kind → ℕ → (ℕ → ℕ) → ℕ → Type 0
FeatureIs feature z x n = z ≡ and_to x n
FeatureIs feature_but28 z x n = z ≡ and_to x n
FeatureIs area z x n = Unit {0}
FeatureIs freed z x n = Unit {0}
FeatureIs other z x n = Unit {0}

pub record FeaturesAre (k : Kinds) (z : CpuidResult) (x : ℕ → CpuidResult) (n : ℕ) : Type 0 where
  pub eax : FeatureIs k.eax z.eax (λ j. (x j).eax) n
  pub ebx : FeatureIs k.ebx z.ebx (λ j. (x j).ebx) n
  pub ecx : FeatureIs k.ecx z.ecx (λ j. (x j).ecx) n
  pub edx : FeatureIs k.edx z.edx (λ j. (x j).edx) n

-- no feature bit beyond another's
abbrev pub FeatureWithin : Kind → ℕ → ℕ → Type 0
FeatureWithin feature a b = Within a b
FeatureWithin feature_but28 a b = Within a b
FeatureWithin area a b = Unit {0}
FeatureWithin freed a b = Unit {0}
FeatureWithin other a b = Unit {0}
