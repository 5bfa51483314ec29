-- Document 01, "Corners of snp.rs", topology: a function of five numbers, over unbounded numbers, so nc + 1 is 256 where it is.
--   s = 0, mt = 0: nc must be 0 and lps at most 1, else 6; v = 1. s = 0, mt = 1: lps must equal nc + 1, else 7; v = lps.
--   s = 1 to 7: v = 2^s; nc + 1 at most v and lps = v, else 7; then mt = 1, else 6. s = 8 to 15: v = 2^s and nothing is compared.
--   t above 1, or t at least v: refusal 8. SMT is on if t = 1.
use Rattle.std.specs.Prelude.{◌&&◌, ◌||◌, ℕ, zero, suc, ◌+◌, ◌^◌, eqb, ltb, leb, Err, Ok, Result}
use Rattle.bits.specs.Choice.{pick}
use Rattle.x86defs.specs.declared.CpuidResult.{CpuidResult}
use Rattle.x86defs.specs.Functions.{cpuid_result}
use Rattle.topology.specs.declared.TopologyError.TheVariants.{Hyperthreading, ProcessorCount, ThreadsPerUnit}
use Rattle.topology.specs.declared.TopologyError.{TopologyError}

-- s = 80000008h.ECX bits 12-15, nc = its bits 0-7, lps = 1.EBX bits 16-23, mt = 1.EDX bit 28, t = 8000001Eh.EBX bits 8-15
pub record Inputs : Type 0 where
  pub s : ℕ
  pub nc : ℕ
  pub lps : ℕ
  pub mt : ℕ
  pub t : ℕ

abbrev pub inputs : ℕ → ℕ → ℕ → ℕ → ℕ → Inputs
inputs s nc lps mt t = record { s = s; nc = nc; lps = lps; mt = mt; t = t }

-- the last check, once v is known
unfoldable pub threads_in : ℕ → ℕ → Result ℕ TopologyError
threads_in v t = pick (ltb 1 t || leb v t) (Err ThreadsPerUnit) (Ok v)

unfoldable pub topology_of : Inputs → Result ℕ TopologyError
topology_of i =
    pick (eqb i.s 0)
    (pick (eqb i.mt 0)
    (pick (eqb i.nc 0 && leb i.lps 1) (threads_in 1 i.t) (Err (Hyperthreading i.s)))
    (pick (eqb i.lps (i.nc + 1)) (threads_in i.lps i.t) (Err (ProcessorCount i.s))))
    (pick (ltb i.s 8)
    (pick (leb (i.nc + 1) (2 ^ i.s) && eqb i.lps (2 ^ i.s))
    (pick (eqb i.mt 1) (threads_in (2 ^ i.s) i.t) (Err (Hyperthreading i.s)))
    (Err (ProcessorCount i.s)))
    (threads_in (2 ^ i.s) i.t))

-- v, the number of processors, where the topology is consistent; else 0
abbrev pub processors : Result ℕ TopologyError → ℕ
processors (Ok v) = v
processors (Err e) = 0

-- the least of the n + 1 numbers from k on whose power of two is at least v; the last of them where none before it is
unfoldable pub least_power : ℕ → ℕ → ℕ → ℕ
least_power v k zero = k
least_power v k (suc n) = pick (leb v (2 ^ k)) k (least_power v (suc k) n)

-- document 02, P5: "The shift in B.1 becomes the least k with 2^k at least v"
unfoldable pub shift_of : ℕ → ℕ
shift_of v = least_power v 0 32

-- "B.0 becomes EAX 1 or 0 (SMT on, off), EBX 2 or 1, ECX 100h, EDX 0"
abbrev pub thread_level : ℕ → CpuidResult
thread_level t = pick (eqb t 1) (cpuid_result 1 2 0x100 0) (cpuid_result 0 1 0x100 0)

-- "B.1 becomes EAX the shift, EBX v, ECX 201h, EDX 0"
abbrev pub core_level : ℕ → CpuidResult
core_level v = cpuid_result (shift_of v) v 0x201 0
