-- One bit of four registers, and registers and entries with bits flipped.
use Rattle.std.specs.Prelude.{ℕ, ◌^◌, eqb}
use Rattle.std.specs.Int.Bits.{bit_xor}
use Rattle.bits.specs.Choice.{pick}
use Rattle.x86defs.specs.declared.CpuidResult.{CpuidResult}
use Rattle.x86defs.specs.Functions.{cpuid_result}
use Rattle.pages.specs.Layout.{Entry}

-- of register i, bit k of register r alone
unfoldable pub bit_in : ℕ → ℕ → ℕ → ℕ
bit_in r k i = pick (eqb r i) (2 ^ k) 0

abbrev pub one_bit : ℕ → ℕ → CpuidResult
one_bit r k = cpuid_result (bit_in r k 0) (bit_in r k 1) (bit_in r k 2) (bit_in r k 3)

abbrev pub xor_result : CpuidResult → CpuidResult → CpuidResult
xor_result a d = cpuid_result (bit_xor a.eax d.eax) (bit_xor a.ebx d.ebx) (bit_xor a.ecx d.ecx) (bit_xor a.edx d.edx)

-- an entry with bit k of register r flipped
unfoldable pub flip_entry : ℕ → ℕ → Entry → Entry
flip_entry r k e = record {
  page = e.page;
  position = e.position;
  leaf = e.leaf;
  subleaf = e.subleaf;
  registers = xor_result e.registers (one_bit r k);
}
