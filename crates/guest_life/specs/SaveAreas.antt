-- The sizes that a guest reads suffice. Of an accepted page set and a processor whose state its table gives (document 02, P3), all in what that
-- processor's guest itself reads: in the standard form every enabled component, at offset EBX with size EAX of its D subleaf, lies within D.0.EBX
-- bytes, and these within D.0.ECX; in the compacted form the components of XCR0 or XSS stand one after the other, apart from each other, behind the
-- 576 bytes of the legacy region and the header, each on a multiple of 64 where its ECX has bit 1, and all within D.1.EBX bytes. On a server B that
-- A rises to, the components, D.0.EBX and D.1.EBX are the same, so that an area laid out on A is laid out for B.
use Rattle.std.specs.Prelude.{◌≡◌, true, List, ℕ, ◌+◌, ◌%◌, ◌≤◌, ◌<◌, Ok}
use Rattle.std.specs.Int.Bits.{bit_or}
use Rattle.bits.specs.Bits.{bit}
use Rattle.x86defs.specs.declared.CpuidResult.{CpuidResult}
use Rattle.masking.specs.Place
use Rattle.table.specs.declared.Choices.{Choices}
use Rattle.table.specs.declared.CpuidResults.{CpuidResults}
use Rattle.table.specs.Table.{row_in}
use Rattle.build.specs.Build.{answer}
use Rattle.rise.specs.Rise.{RiseHypothesis}
use Rattle.guest.specs.declared.Processor.{Processor}
use Rattle.guest.specs.GuestPages.{guest_pages}
use Rattle.guest_rise.specs.GuestRise.{compacts_in}

-- row D.k of a guest's table
abbrev pub subleaf : CpuidResults → ℕ → CpuidResult
subleaf g k = (row_in g (Place.extended_state k)).result

-- g is the guest's table
pub record StandardForm (g : CpuidResults) (xcr0 : ℕ) : Type 0 where
  pub header : 576 ≤ (subleaf g 0).ebx
  pub there : (k : ℕ) → 2 ≤ k → bit k xcr0 ≡ 1 → (row_in g (Place.extended_state k)).present ≡ true
  pub inside : (k : ℕ) → 2 ≤ k → bit k xcr0 ≡ 1 → (subleaf g k).ebx + (subleaf g k).eax ≤ (subleaf g 0).ebx
  pub most : (subleaf g 0).ebx ≤ (subleaf g 0).ecx

-- the bits of x are XCR0's or XSS's
pub record CompactedForm (g : CpuidResults) (x : ℕ) : Type 0 where
  pub start : ℕ → ℕ
  pub there : (k : ℕ) → 2 ≤ k → bit k x ≡ 1 → (row_in g (Place.extended_state k)).present ≡ true
  pub header : (k : ℕ) → 2 ≤ k → bit k x ≡ 1 → 576 ≤ start k
  pub aligned : (k : ℕ) → 2 ≤ k → bit k x ≡ 1 → bit 1 (subleaf g k).ecx ≡ 1 → start k % 64 ≡ 0
  pub apart : (j k : ℕ) → 2 ≤ j → j < k → bit j x ≡ 1 → bit k x ≡ 1 → start j + (subleaf g j).eax ≤ start k
  pub inside : (k : ℕ) → 2 ≤ k → bit k x ≡ 1 → start k + (subleaf g k).eax ≤ (subleaf g 1).ebx

abbrev pub SaveAreas : Type 0
SaveAreas = (chosen : Choices) (s : List ℕ) (v : Processor) → (guest_pages chosen s v).verdict ≡ Ok tt
    → StandardForm (guest_pages chosen s v).table v.xcr0
    × (compacts_in (guest_pages chosen s v).table ≡ true → CompactedForm (guest_pages chosen s v).table (bit_or v.xcr0 v.xss))

-- the same areas in two guests' tables
pub record SameAreas (g h : CpuidResults) (x : ℕ) : Type 0 where
  pub components : (k : ℕ) → 2 ≤ k → bit k x ≡ 1 → subleaf g k ≡ subleaf h k
  pub standard : (subleaf g 0).ebx ≡ (subleaf h 0).ebx
  pub compacted : compacts_in g ≡ true → (subleaf g 1).ebx ≡ (subleaf h 1).ebx

-- B's view is given wherever A's D.1.EAX has bit 1 or bit 3 (`guest_rise_whole`)
abbrev pub AreasStay : Type 0
AreasStay = (chosen : Choices) (a b : List ℕ) (v : Processor) → RiseHypothesis chosen a b → (answer chosen b).verdict ≡ Ok tt
    → (guest_pages chosen a v).verdict ≡ Ok tt → (guest_pages chosen b v).verdict ≡ Ok tt
    → SameAreas (guest_pages chosen a v).table (guest_pages chosen b v).table (bit_or v.xcr0 v.xss)
