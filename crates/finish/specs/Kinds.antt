-- Document 01, "Feature registers of demand 3": one table gives the registers of each leaf their kinds. It has two readings, one for masked
-- entries and one for tables.
use Rattle.std.specs.Prelude.{◌≡◌, Bool, true, false, ◌&&◌, List, [], ◌∷◌, ℕ, ◌≤◌, eqb}
use Rattle.bits.specs.Choice.{pick}
use Rattle.bits.specs.Bits.{bit, Within}
use Rattle.x86defs.specs.declared.CpuidFunction.{CpuidFunction}
use Rattle.x86defs.specs.declared.CpuidResult.{CpuidResult}
use Rattle.x86defs.specs.Functions.{function, same_function}
use Rattle.masking.specs.Kept.{leaf_at, subleaf_at}
use Rattle.finish.specs.Finish.{Rule}
use Rattle.finish.specs.Finish.Rule.{made, needed, component}

pub data Kind : Type 0 where
  -- a feature register; 1.EDX, whose bit 28 is none; the save area; freed, so that entries may differ; any other register
  feature feature_but28 area freed other : Kind

pub record Kinds : Type 0 where
  pub eax : Kind
  pub ebx : Kind
  pub ecx : Kind
  pub edx : Kind

abbrev pub kinds : Kind → Kind → Kind → Kind → Kinds
kinds a b c d = record { eax = a; ebx = b; ecx = c; edx = d }

-- a leaf, its subleaf (0 where it has none), and the kinds of EAX, EBX, ECX and EDX
pub record LeafKinds : Type 0 where
  pub leaf : CpuidFunction
  pub subleaf : ℕ
  pub kinds : Kinds

abbrev leaf : CpuidFunction → ℕ → Kind → Kind → Kind → Kind → LeafKinds
leaf l k a b c d = record { leaf = l; subleaf = k; kinds = kinds a b c d }

-- "1.ECX; 1.EDX but bit 28; 7.0.EBX, ECX, EDX; 80000001h.ECX, EDX; 80000008h.EBX; D.0.EAX; D.1.EAX, ECX; 8000001Ah.EAX; 8000001Fh.EAX. The
-- save area is D.0.ECX. Freed, so that entries may differ: D.0.ECX and all of B.0 and B.1." Rows 0 and 80000000h are made here, from no
-- entry: nothing is asked of one.
unfoldable pub register_kinds : List LeafKinds
register_kinds =
    leaf (function 0x1) 0 other other feature feature_but28
    ∷ leaf (function 0x7) 0 other feature feature feature
    ∷ leaf (function 0x80000001) 0 other other feature feature
    ∷ leaf (function 0x80000008) 0 other feature other other
    ∷ leaf (function 0xD) 0 feature other area other
    ∷ leaf (function 0xD) 1 feature other feature other
    ∷ leaf (function 0x8000001A) 0 feature other other other
    ∷ leaf (function 0x8000001F) 0 feature other other other
    ∷ leaf (function 0xB) 0 freed freed freed freed
    ∷ leaf (function 0xB) 1 freed freed freed freed
    ∷ leaf (function 0x0) 0 freed freed freed freed
    ∷ leaf (function 0x80000000) 0 freed freed freed freed
    ∷ []

-- a register that the table does not name is of kind `other`
abbrev kinds_in : List LeafKinds → CpuidFunction → ℕ → Kinds
kinds_in [] l k = kinds other other other other
kinds_in (r ∷ rs) l k = pick (same_function r.leaf l && eqb r.subleaf k) r.kinds (kinds_in rs l k)

-- the kinds of the row at a place
unfoldable pub kinds_at : ℕ → Kinds
kinds_at i = kinds_in register_kinds (leaf_at i) (subleaf_at i)

-- how B's masked entry compares with A's
abbrev pub EntryAtLeast : Kind → ℕ → ℕ → Type 0
EntryAtLeast feature a b = Within a b
EntryAtLeast feature_but28 a b = Within a b × (bit 28 a ≡ bit 28 b)
EntryAtLeast area a b = Unit {0}
EntryAtLeast freed a b = Unit {0}
EntryAtLeast other a b = a ≡ b

-- how B's table then compares with A's
abbrev pub TableAtLeast : Kind → ℕ → ℕ → Type 0
TableAtLeast feature a b = Within a b
TableAtLeast feature_but28 a b = Within a b × (bit 28 a ≡ bit 28 b)
TableAtLeast area a b = a ≤ b
TableAtLeast freed a b = a ≡ b
TableAtLeast other a b = a ≡ b

-- all four registers of a row
pub record Registers (R : Kind → ℕ → ℕ → Type 0) (k : Kinds) (a b : CpuidResult) : Type 0 where
  pub eax : R k.eax a.eax b.eax
  pub ebx : R k.ebx a.ebx b.ebx
  pub ecx : R k.ecx a.ecx b.ecx
  pub edx : R k.edx a.edx b.edx

-- the same by a test of each
abbrev pub all_registers : (Kind → ℕ → ℕ → Bool) → Kinds → CpuidResult → CpuidResult → Bool
all_registers test k a b =
    test k.eax a.eax b.eax
    && (test k.ebx a.ebx b.ebx && (test k.ecx a.ecx b.ecx && test k.edx a.edx b.edx))

-- rows 0 and 80000000h come from no entry
abbrev pub from_entry : Rule → Bool
from_entry (made t) = false
from_entry (needed t) = true
from_entry (component k) = true
