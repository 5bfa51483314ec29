-- Document 02, P12, "One table for a pool of servers": "joins the feature registers of their first entries by and, keeps all else from the
-- first". Masked first entries joined, place by place; servers are counted from 0.
use Rattle.std.specs.Prelude.{Bool, ◌&&◌, ℕ, zero, suc, ◌^◌}
use Rattle.std.specs.Int.Bits.{bit_and, bit_or}
use Rattle.x86defs.specs.declared.CpuidResult.{CpuidResult}
use Rattle.x86defs.specs.Functions.{cpuid_result}
use Rattle.table.specs.Rows.{Rows}
use Rattle.finish.specs.Kinds.{Kind, Kinds, kinds_at}
use Rattle.finish.specs.Kinds.Kind.{feature, feature_but28, area, freed, other}

-- a register with one server's more; bit 28 of 1.EDX is no feature and stays the first's
abbrev pub joined_register : Kind → ℕ → ℕ → ℕ
joined_register feature a b = bit_and a b
joined_register feature_but28 a b = bit_and a (bit_or b (2 ^ 28))
joined_register area a b = a
joined_register freed a b = a
joined_register other a b = a

abbrev pub pooled_results : Kinds → CpuidResult → CpuidResult → CpuidResult
pooled_results k a b =
    cpuid_result (joined_register k.eax a.eax b.eax) (joined_register k.ebx a.ebx b.ebx) (joined_register k.ecx a.ecx b.ecx)
    (joined_register k.edx a.edx b.edx)

-- one server more: an entry is there where the first has it
unfoldable pub with_server : Rows → Rows → Rows
with_server a b i = record { present = (a i).present; result = pooled_results (kinds_at i) (a i).result (b i).result }

-- the entries of servers 0 to n, joined
unfoldable pub pool : (ℕ → Rows) → ℕ → Rows
pool f zero = f 0
pool f (suc n) = with_server (pool f n) (f (suc n))

-- the and of x 0 to x n
unfoldable pub and_to : (ℕ → ℕ) → ℕ → ℕ
and_to x zero = x 0
and_to x (suc n) = bit_and (and_to x n) (x (suc n))

-- whether p 0 to p n all hold
unfoldable pub all_to : (ℕ → Bool) → ℕ → Bool
all_to p zero = p 0
all_to p (suc n) = all_to p n && p (suc n)
