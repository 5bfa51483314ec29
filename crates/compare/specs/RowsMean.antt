-- What is said of the rows of A beside those of B: of a place, and of the first that fails.
use Rattle.std.specs.Prelude.{◌≡◌, true, false, ◌⊎◌, ℕ, ◌<◌, Option}
use Rattle.x86defs.specs.declared.CpuidFunction.{CpuidFunction}
use Rattle.masking.specs.Kept.{places, leaf_at}
use Rattle.table.specs.Rows.{Rows}
use Rattle.finish.specs.Kinds.{Kind, Registers, kinds_at}
use Rattle.compare.specs.declared.registers.Register.{Register}
use Rattle.compare.specs.declared.search.RowsCompared.{RowsCompared}
use Rattle.compare.specs.declared.search.RowsCompared.TheVariants.{Rises, NoRow, Differs, Beyond, MaskLacks}
use Rattle.compare.specs.Registers.{order, value_of, kind_of, subleaf_named}

-- the rows of A that count, those of B, how a register of B's compares by its kind, where B may have a row that A has not, and how the
-- combined masks compare
pub record Sides : Type 1 where
  pub A : Rows
  pub B : Rows
  pub AtLeast : Kind → ℕ → ℕ → Type 0
  pub MayStand : ℕ → Type 0
  pub MasksRise : Type 0

-- one register of B's row at place i beside A's
abbrev pub RegisterRises : Sides → ℕ → Register → Type 0
RegisterRises s i q = s.AtLeast (kind_of q (kinds_at i)) (value_of q (s.A i).result) (value_of q (s.B i).result)

-- nothing fails at place i
pub record PlaceRises (s : Sides) (i : ℕ) : Type 0 where
  pub rows : (s.A i).present ≡ true → (s.B i).present ≡ true
  pub registers : (s.A i).present ≡ true → Registers s.AtLeast (kinds_at i) (s.A i).result (s.B i).result
  pub others : (s.B i).present ≡ true → ((s.A i).present ≡ true) ⊎ s.MayStand i

-- leaf and subleaf are those of place i; A has a row there, B has none
pub record AbsentAt (s : Sides) (i : ℕ) (leaf : CpuidFunction) (subleaf : Option ℕ) : Type 0 where
  pub leaf_at_place : leaf ≡ leaf_at i
  pub subleaf_at_place : subleaf ≡ subleaf_named i
  pub in_a : (s.A i).present ≡ true
  pub absent : (s.B i).present ≡ false

-- both have one; the register fails, and those before it do not
pub record DiffersAt (s : Sides) (i : ℕ) (leaf : CpuidFunction) (subleaf : Option ℕ) (register : Register) : Type 0 where
  pub leaf_at_place : leaf ≡ leaf_at i
  pub subleaf_at_place : subleaf ≡ subleaf_named i
  pub in_a : (s.A i).present ≡ true
  pub in_b : (s.B i).present ≡ true
  pub fails : RegisterRises s i register → ⊥
  pub registers_before : (q : Register) → order q < order register → RegisterRises s i q

-- B has one that A has not, and may not have it
pub record BeyondAt (s : Sides) (i : ℕ) (leaf : CpuidFunction) (subleaf : Option ℕ) : Type 0 where
  pub leaf_at_place : leaf ≡ leaf_at i
  pub subleaf_at_place : subleaf ≡ subleaf_named i
  pub not_in_a : (s.A i).present ≡ false
  pub in_b : (s.B i).present ≡ true
  pub may_not : s.MayStand i → ⊥

-- what an answer says of place i; of masks no place speaks
abbrev pub AtPlace : Sides → ℕ → RowsCompared → Type 0
AtPlace s i Rises = PlaceRises s i
AtPlace s i (NoRow leaf subleaf) = AbsentAt s i leaf subleaf
AtPlace s i (Differs leaf subleaf register) = DiffersAt s i leaf subleaf register
AtPlace s i (Beyond leaf subleaf) = BeyondAt s i leaf subleaf
AtPlace s i MaskLacks = ⊥

-- it is so at a place, and nothing fails at the places before it
pub record First (s : Sides) (c : RowsCompared) : Type 0 where
  pub place : ℕ
  pub below : place < places
  pub before : (j : ℕ) → j < place → PlaceRises s j
  pub there : AtPlace s place c

abbrev pub AllRise : Sides → Type 0
AllRise s = (i : ℕ) → i < places → PlaceRises s i

abbrev pub RowsMean : Sides → RowsCompared → Type 0
RowsMean s Rises = AllRise s × s.MasksRise
RowsMean s (NoRow leaf subleaf) = First s (NoRow leaf subleaf)
RowsMean s (Differs leaf subleaf register) = First s (Differs leaf subleaf register)
RowsMean s (Beyond leaf subleaf) = First s (Beyond leaf subleaf)
RowsMean s MaskLacks = AllRise s × (s.MasksRise → ⊥)
