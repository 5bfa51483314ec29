-- Registers of two rows compared by masks: f has the feature bits, m those that must agree, which in tables are all others. For the masks of a kind
-- this is the test of that kind, of registers of 32 bits; the save area of a table is tested by its size.
use Rattle.std.specs.Prelude.{◌≡◌, refl, Bool, true, false, ℕ, ◌-◌, ◌^◌, ◌<◌, eqb, leb}
use Rattle.std.specs.Int.Bits.{bit_and, bit_or}
use Rattle.x86defs.specs.declared.CpuidResult.{CpuidResult}
use Rattle.finish.specs.Kinds.{Kind, Kinds, register_kinds, kinds_at}
use Rattle.finish.specs.Kinds.Kind.{feature, feature_but28, area, freed, other}
use Rattle.register_masks.specs.declared.RowMasks.{RowMasks}
use Rattle.register_masks.specs.RegisterMaskLaws.{agree}
use Rattle.compare.specs.declared.registers.RegistersRise.{RegistersRise}
use Rattle.bits.specs.Choice.{pick}
use Rattle.bits.specs.Lists.{tabulate}
use Rattle.bits.specs.ListsLaws.{tabulate_at}
use Rattle.x86defs.specs.Functions.{cpuid_result}
use Rattle.masking.specs.Kept.{places, kept_leaves, slot}
use Rattle.masking.specs.Place
use Rattle.compare.specs.declared.search.Asked.{Asked}
use Rattle.compare.specs.declared.search.Asked.TheVariants.{Entries, Tables}

-- ---- as the code has it: B's register has what A's has, in the features that A has and in the bits that must agree

abbrev pub passes : ℕ → ℕ → ℕ → ℕ → Bool
passes f m a b = agree (bit_or (bit_and a f) m) a b

abbrev pub passes_by : CpuidResult → CpuidResult → CpuidResult → CpuidResult → RegistersRise
passes_by f m a b = record {
  eax = passes f.eax m.eax a.eax b.eax;
  ebx = passes f.ebx m.ebx a.ebx b.ebx;
  ecx = passes f.ecx m.ecx a.ecx b.ecx;
  edx = passes f.edx m.edx a.edx b.edx;
}

abbrev pub outside : CpuidResult → CpuidResult
outside f = cpuid_result (2 ^ 32 - 1 - f.eax) (2 ^ 32 - 1 - f.ebx) (2 ^ 32 - 1 - f.ecx) (2 ^ 32 - 1 - f.edx)

-- the bits in which two rows must agree, by the masks m of their place
abbrev pub agreed_in : Asked → RowMasks → CpuidResult
agreed_in Entries m = m.agreed
agreed_in (Tables x y) m = outside m.features

-- ECX at place i, when c is its answer by the masks
abbrev pub area_test : Asked → ℕ → ℕ → ℕ → Bool → Bool
area_test Entries i a b c = c
area_test (Tables x y) i a b c = pick (eqb i (Place.extended_state 0)) (leb a b) c

-- the four tests, that of ECX given
abbrev pub with_ecx : Bool → RegistersRise → RegistersRise
with_ecx ecx r = record { eax = r.eax; ebx = r.ebx; ecx = ecx; edx = r.edx }

-- ---- the save area is ECX of D.0 and nothing else

abbrev pub is_area : Kind → Bool
is_area feature = false
is_area feature_but28 = false
is_area area = true
is_area freed = false
is_area other = false

abbrev pub areas_of : Kinds → RegistersRise
areas_of k = record { eax = is_area k.eax; ebx = is_area k.ebx; ecx = is_area k.ecx; edx = is_area k.edx }

abbrev pub areas_at : ℕ → RegistersRise
areas_at i = record { eax = false; ebx = false; ecx = eqb i (Place.extended_state 0); edx = false }

pub only_area : (i : ℕ) → i < places → areas_of (kinds_at i) ≡ areas_at i
unfolding tabulate kinds_at register_kinds slot kept_leaves
only_area = tabulate_at places (λ i. areas_of (kinds_at i)) areas_at refl

-- ---- a register, by its size where it is the save area

abbrev pub passes_or_grows : Bool → ℕ → ℕ → ℕ → Bool
passes_or_grows grows f a b = pick grows (leb a b) (passes f (2 ^ 32 - 1 - f) a b)
