-- Document 02, P8: "From 1 to 2 a table built otherwise gets the same three bits cleared where its own D.0.EAX lacks bit 2, and nothing else changed,
-- absent rows reading as zeros". Of any table, row by row and bit by bit. And in place: within one edition no lent byte changes, whatever is
-- answered.
use Rattle.std.specs.Prelude.{◌≡◌, Bool, true, false, ◌||◌, List, ◌≢◌, ℕ, ◌<◌, eqb, Ok}
use Rattle.bits.specs.Choice.{pick}
use Rattle.bits.specs.Bits.{bit, has}
use Rattle.x86defs.specs.declared.CpuidResult.{CpuidResult}
use Rattle.x86defs.specs.Functions.{cpuid_result}
use Rattle.pages.specs.Bytes.{AreBytes}
use Rattle.masking.specs.Kept.{places}
use Rattle.masking.specs.Place
use Rattle.table.specs.declared.CpuidResults.{CpuidResults}
use Rattle.table.specs.Table.{row_in}
use Rattle.carry.specs.Carry.{carry}
use Rattle.carry.specs.CarryImage.{carry_image}

-- whether the table's own D.0.EAX has bit 2; an absent row reads as zeros
abbrev pub own_ymm : CpuidResults → Bool
own_ymm t = has 2 (pick (row_in t (Place.extended_state 0)).present (row_in t (Place.extended_state 0)).result.eax 0)

-- a register x carried as y: where bits are kept it is x, else the named bits are 0 and every other is x's
pub record BitsGone (keep : Bool) (named : ℕ → Bool) (x y : ℕ) : Type 0 where
  pub kept : keep ≡ true → y ≡ x
  pub gone : keep ≡ false → (k : ℕ) → k < 32 → bit k y ≡ pick (named k) 0 (bit k x)

pub record RowGone (keep : Bool) (named : ℕ → Bool) (r u : CpuidResult) : Type 0 where
  pub eax : u.eax ≡ r.eax
  pub ebx : u.ebx ≡ r.ebx
  pub ecx : BitsGone keep named r.ecx u.ecx
  pub edx : u.edx ≡ r.edx

-- "1.ECX bit 29 and 80000001h.ECX bits 11 (XOP) and 16 (FMA4)"
abbrev pub of_version : ℕ → Bool
of_version k = eqb k 29

abbrev pub of_extended : ℕ → Bool
of_extended k = eqb k 11 || eqb k 16

pub record CarriedRows (t u : CpuidResults) : Type 0 where
  pub present : u.present ≡ t.present
  pub count : u.row_count ≡ t.row_count
  pub mask : u.max_extended_state ≡ t.max_extended_state
  pub version : (row_in t Place.version_and_features).present ≡ true
      → RowGone (own_ymm t) of_version (row_in t Place.version_and_features).result (row_in u Place.version_and_features).result
  pub extended : (row_in t Place.extended_version_and_features).present ≡ true
      → RowGone (own_ymm t) of_extended (row_in t Place.extended_version_and_features).result (row_in u Place.extended_version_and_features).result
  -- every other row as it was, and a row that is not there
  pub others : (i : ℕ) → i < places → i ≢ Place.version_and_features → i ≢ Place.extended_version_and_features → row_in u i ≡ row_in t i
  pub absent : (i : ℕ) → i < places → (row_in t i).present ≡ false → row_in u i ≡ row_in t i

abbrev pub CarriesRows : Type 0
CarriesRows = (t : CpuidResults) (xcr0 xss : ℕ) → (carry t 1 2 xcr0 xss).verdict ≡ Ok tt → CarriedRows t (carry t 1 2 xcr0 xss).table

-- in place, within one edition: any lent bytes, an image or not, refused or not, stay
abbrev pub StaysWithin : Type 0
StaysWithin = (s : List ℕ) (n xcr0 xss : ℕ) → AreBytes s → (carry_image s n n xcr0 xss).buffer ≡ s
