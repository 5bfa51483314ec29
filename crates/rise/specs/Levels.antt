-- B.0 and B.1 of any accepted table, whatever s: document 01, "B.0 becomes EAX 1 or 0 (SMT on, off), EBX 2 or 1, ECX 100h, EDX 0. B.1 becomes EAX the
-- shift, EBX v, ECX 201h, EDX 0", and document 02, P5: "The shift in B.1 becomes the least k with 2^k at least v". v by document 01 again, from the
-- five inputs: 1 or lps where s is 0, else 2^s.
use Rattle.std.specs.Prelude.{◌≡◌, true, ◌≢◌, ℕ, ◌+◌, ◌^◌, ◌≤◌, ◌<◌, Ok}
use Rattle.x86defs.specs.Functions.{cpuid_result}
use Rattle.topology.specs.Topology.{Inputs, topology_of}
use Rattle.topology.specs.TopologyLaws.{LeastShift}
use Rattle.masking.specs.Place
use Rattle.table.specs.declared.CpuidResults.{CpuidResults}
use Rattle.table.specs.Table.{row_in}

-- where v comes from
pub data CountOf (i : Inputs) (v : ℕ) : Type 0 where
  one : i.s ≡ 0 → i.mt ≡ 0 → v ≡ 1 → CountOf i v
  legacy : i.s ≡ 0 → i.mt ≢ 0 → v ≡ i.lps → v ≡ i.nc + 1 → CountOf i v
  power : i.s ≢ 0 → v ≡ 2 ^ i.s → CountOf i v

pub record GivenBy (i : Inputs) (v : ℕ) : Type 0 where
  pub count : CountOf i v
  pub threads : i.t ≤ 1
  pub below : i.t < v

-- B.0 and B.1 of a table, by five inputs. `LeastShift v k`: 2^k is at least v, and no lower power of two is.
pub record AcceptedLevels (i : Inputs) (t : CpuidResults) : Type 0 where
  pub v : ℕ
  pub processors : topology_of i ≡ Ok v
  pub given : GivenBy i v
  pub fits : v < 2 ^ 32
  pub threads_present : (row_in t Place.thread_level).present ≡ true
  pub threads : (row_in t Place.thread_level).result ≡ cpuid_result i.t (i.t + 1) 0x100 0
  pub cores_present : (row_in t Place.core_level).present ≡ true
  pub shift : LeastShift v (row_in t Place.core_level).result.eax
  pub count : (row_in t Place.core_level).result.ebx ≡ v
  pub level : (row_in t Place.core_level).result.ecx ≡ 0x201
  pub number : (row_in t Place.core_level).result.edx ≡ 0
