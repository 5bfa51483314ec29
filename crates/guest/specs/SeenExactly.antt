-- Document 02, P3, register by register and bit by bit: "the guest's whole table, looked up as before, differs in these places", and in no other. Of
-- any table and any processor: which rows are there, the row count and the combined mask are the paravisor's; of a row that is there, the registers
-- and bits that the paper names are what it makes them, and every other register and bit is the paravisor's.
use Rattle.std.specs.Prelude.{◌≡◌, Bool, true, false, ◌&&◌, ◌≢◌, ℕ, ◌+◌, ◌<◌}
use Rattle.bits.specs.Choice.{pick}
use Rattle.bits.specs.Bits.{bit, has}
use Rattle.x86defs.specs.declared.CpuidResult.{CpuidResult}
use Rattle.masking.specs.Kept.{places}
use Rattle.masking.specs.Place
use Rattle.table.specs.declared.CpuidResults.{CpuidResults}
use Rattle.table.specs.Table.{row_in, rows_of_table}
use Rattle.guest_state.specs.State.{save_register, compact_register}
use Rattle.guest.specs.declared.Processor.{Processor}
use Rattle.guest.specs.Guest.{guest_table}

-- "Leaf 1 EBX bits 24-31 are the number's low eight bits": n is the x2APIC number, x the paravisor's EBX and y the guest's
pub record NumberBits (n x y : ℕ) : Type 0 where
  pub number : (j : ℕ) → j < 8 → bit (24 + j) y ≡ bit j n
  pub others : (k : ℕ) → k < 24 → bit k y ≡ bit k x

-- "Leaf 1 ECX bit 27 is set if OSXSAVE is on and bit 26 is set, else clear"
pub record OsxsaveBit (on : Bool) (x y : ℕ) : Type 0 where
  pub osxsave : bit 27 y ≡ pick (on && has 26 x) 1 0
  pub others : (k : ℕ) → k < 32 → k ≢ 27 → bit k y ≡ bit k x

-- the five rows, g the guest's registers and r the paravisor's
pub record VersionSeen (v : Processor) (r g : CpuidResult) : Type 0 where
  pub eax : g.eax ≡ r.eax
  pub ebx : NumberBits v.x2apic r.ebx g.ebx
  pub ecx : OsxsaveBit v.osxsave r.ecx g.ecx
  pub edx : g.edx ≡ r.edx

pub record LevelSeen (v : Processor) (r g : CpuidResult) : Type 0 where
  pub eax : g.eax ≡ r.eax
  pub ebx : g.ebx ≡ r.ebx
  pub ecx : g.ecx ≡ r.ecx
  pub edx : g.edx ≡ v.x2apic

pub record SizeSeen (size : ℕ) (r g : CpuidResult) : Type 0 where
  pub eax : g.eax ≡ r.eax
  pub ebx : g.ebx ≡ size
  pub ecx : g.ecx ≡ r.ecx
  pub edx : g.edx ≡ r.edx

abbrev pub is_present : CpuidResults → ℕ → Type 0
is_present t i = (row_in t i).present ≡ true

pub record SeenExactly (t : CpuidResults) (v : Processor) : Type 0 where
  pub present : (i : ℕ) → (row_in (guest_table t v) i).present ≡ (row_in t i).present
  pub count : (guest_table t v).row_count ≡ t.row_count
  pub mask : (guest_table t v).max_extended_state ≡ t.max_extended_state
  pub version : is_present t Place.version_and_features
      → VersionSeen v (row_in t Place.version_and_features).result (row_in (guest_table t v) Place.version_and_features).result
  pub threads : is_present t Place.thread_level → LevelSeen v (row_in t Place.thread_level).result (row_in (guest_table t v) Place.thread_level).result
  pub cores : is_present t Place.core_level → LevelSeen v (row_in t Place.core_level).result (row_in (guest_table t v) Place.core_level).result
  -- the size over XCR0, held to 32 bits, which a built table's never passes (`guest_size_never_overflows`)
  pub state0 : is_present t (Place.extended_state 0)
      → SizeSeen (save_register (rows_of_table t) v.xcr0) (row_in t (Place.extended_state 0)).result (row_in (guest_table t v) (Place.extended_state 0)).result
  pub state1 : is_present t (Place.extended_state 1)
      → SizeSeen (compact_register (rows_of_table t) v.xcr0 v.xss) (row_in t (Place.extended_state 1)).result
      (row_in (guest_table t v) (Place.extended_state 1)).result
  pub elsewhere : (i : ℕ) → i < places
      → i ≢ Place.version_and_features → i ≢ Place.thread_level → i ≢ Place.core_level → i ≢ Place.extended_state 0 → i ≢ Place.extended_state 1
      → (row_in (guest_table t v) i).result ≡ (row_in t i).result
  -- and a row that is not there stays as it is
  pub absent : (i : ℕ) → i < places → (row_in t i).present ≡ false → (row_in (guest_table t v) i).result ≡ (row_in t i).result
