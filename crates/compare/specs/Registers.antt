-- A row's registers by name: the order in which they are compared, each one's value and kind, and the first of four tests that fails.
use Rattle.std.specs.Prelude.{Bool, ℕ, Option}
use Rattle.bits.specs.Choice.{pick}
use Rattle.x86defs.specs.declared.CpuidResult.{CpuidResult}
use Rattle.masking.specs.Kept.{indexed_at, subleaf_at}
use Rattle.table.specs.Numbers.{subleaf_of}
use Rattle.finish.specs.Kinds as Definition
use Rattle.compare.specs.declared.registers.Register.{Register}
use Rattle.compare.specs.declared.registers.Register.TheVariants.{Eax, Ebx, Ecx, Edx}
use Rattle.compare.specs.declared.registers.RegistersRise.{RegistersRise}

-- a register by name: its place among the four, its value in a row, its kind
abbrev pub order : Register → ℕ
order Eax = 0
order Ebx = 1
order Ecx = 2
order Edx = 3

abbrev pub value_of : Register → CpuidResult → ℕ
value_of Eax r = r.eax
value_of Ebx r = r.ebx
value_of Ecx r = r.ecx
value_of Edx r = r.edx

abbrev pub kind_of : Register → Definition.Kinds → Definition.Kind
kind_of Eax k = k.eax
kind_of Ebx k = k.ebx
kind_of Ecx k = k.ecx
kind_of Edx k = k.edx

-- the four tests at once, and the first that fails: EDX where the other three pass
abbrev pub registers_rise : (Definition.Kind → ℕ → ℕ → Bool) → Definition.Kinds → CpuidResult → CpuidResult → RegistersRise
registers_rise test k a b = record {
  eax = test k.eax a.eax b.eax;
  ebx = test k.ebx a.ebx b.ebx;
  ecx = test k.ecx a.ecx b.ecx;
  edx = test k.edx a.edx b.edx;
}

abbrev pub first_by : Bool → Bool → Bool → Register
first_by eax ebx ecx = pick eax (pick ebx (pick ecx Edx Ecx) Ebx) Eax

abbrev pub first_to_fail : RegistersRise → Register
first_to_fail t = first_by t.eax t.ebx t.ecx

-- the subleaf of a place, where its row carries one
abbrev pub subleaf_named : ℕ → Option ℕ
subleaf_named i = subleaf_of (indexed_at i) (subleaf_at i)
