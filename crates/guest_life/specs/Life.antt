-- A guest's whole life after its start: any finite list of moves and carries. A move is to a server whose table compares as at least the one that is
-- kept (`snp_cpuid_table_compare` answers 0); a carry takes the kept table to its edition (document 02, P8), at any state that it accepts. A pool's
-- table is chosen before the start and is no step.
use Rattle.std.specs.Prelude.{◌≡◌, Bool, true, false, ◌&&◌, ◌||◌, not, List, ℕ, ◌≤◌, ◌<◌, eqb, length, Err, Ok, Option, Some}
use Rattle.bits.specs.Bits.{bit}
use Rattle.x86defs.specs.declared.CpuidFunction.{CpuidFunction}
use Rattle.x86defs.specs.declared.CpuidResult.{CpuidResult}
use Rattle.masking.specs.Kept.{places}
use Rattle.masking.specs.Place
use Rattle.table.specs.declared.Choices.{Choices}
use Rattle.table.specs.declared.CpuidResults.{CpuidResults}
use Rattle.table.specs.declared.Refusal.TheVariants.{CompactSizeTooLarge}
use Rattle.table.specs.Table.{row_in}
use Rattle.finish.specs.Kinds.{Kind, TableAtLeast, kinds_at}
use Rattle.finish.specs.Kinds.Kind.{feature, feature_but28, area, freed, other}
use Rattle.memory.specs.Held.{held_in}
use Rattle.build.specs.Build.{answer, TableIn}
use Rattle.lookup.specs.Lookup.{lookup, place_asked}
use Rattle.rise.specs.Preorder.{SameRows}
use Rattle.compare.specs.declared.search.RowsCompared.TheVariants.{Rises}
use Rattle.compare.specs.RowsCompared.{compared_tables}
use Rattle.carry.specs.Carry.{carry}
use Rattle.guest.specs.declared.Processor.{Processor}
use Rattle.guest.specs.declared.GuestAnswer.{GuestAnswer}
use Rattle.guest.specs.Guest.{guest_answer}
use Rattle.guest.specs.GuestPages.{guest_pages}
use Rattle.guest_rise.specs.GuestRise.{compacts_in}
use Rattle.images.specs.CarriedRows.{own_ymm}
use Rattle.guest_life.specs.Sound.{Sound}
use Rattle.guest_life.specs.CarriedOrder.{latest}
use Rattle.guest_life.specs.SaveAreas.{subleaf}

-- ---- steps

pub data Life : CpuidResults → CpuidResults → Type 0 where
  starts : {t : CpuidResults} → Life t t
  moves : {t u w : CpuidResults} → compared_tables t u ≡ Rises → Life u w → Life t w
  carries : {t w : CpuidResults} (from to xcr0 xss : ℕ) → (carry t from to xcr0 xss).verdict ≡ Ok tt
      → Life (carry t from to xcr0 xss).table w → Life t w

-- ---- what is still shown

-- carry's three bits of ECX, by place and bit: 1.ECX bit 29 and 80000001h.ECX bits 11 and 16
abbrev pub three_bits : ℕ → ℕ → Bool
three_bits i k = (eqb i Place.version_and_features && eqb k 29) || (eqb i Place.extended_version_and_features && (eqb k 11 || eqb k 16))

-- they are lost at most where the first table's own D.0.EAX lacks bit 2
abbrev pub lost_bit : Bool → ℕ → ℕ → Bool
lost_bit ymm i k = not ymm && three_bits i k

-- as demand 3 compares registers, a feature register but for those bits
abbrev pub StillShown : (ℕ → Bool) → Kind → ℕ → ℕ → Type 0
StillShown lost feature a b = (k : ℕ) → k < 32 → lost k ≡ false → bit k a ≤ bit k b
StillShown lost feature_but28 a b = TableAtLeast feature_but28 a b
StillShown lost area a b = a ≤ b
StillShown lost freed a b = a ≡ b
StillShown lost other a b = a ≡ b

pub record RowShown (lost : ℕ → Bool) (i : ℕ) (r s : CpuidResult) : Type 0 where
  pub eax : TableAtLeast (kinds_at i).eax r.eax s.eax
  pub ebx : TableAtLeast (kinds_at i).ebx r.ebx s.ebx
  pub ecx : StillShown lost (kinds_at i).ecx r.ecx s.ecx
  pub edx : TableAtLeast (kinds_at i).edx r.edx s.edx

-- what was found at an exit is found, with registers that compare; of D.1, only where the first view's D.1.EAX has bit 1 or bit 3 (document 02, P3)
pub record AskedShown (lost : ℕ → ℕ → Bool) (g h : CpuidResults) (leaf : CpuidFunction) (sub : Option ℕ) (enforce : Bool) (r : CpuidResult) : Type 0 where
  pub registers : CpuidResult
  pub found : lookup h leaf sub enforce ≡ Some registers
  pub shown : (place_asked leaf sub enforce ≡ Place.extended_state 1 → compacts_in g ≡ true)
      → RowShown (lost (place_asked leaf sub enforce)) (place_asked leaf sub enforce) r registers

-- g is the first table's view and h the last one's
pub record ViewLasts (lost : ℕ → ℕ → Bool) (g h : CpuidResults) : Type 0 where
  pub rows : (i : ℕ) → i < places → (row_in g i).present ≡ true → (row_in h i).present ≡ true
  pub registers : (i : ℕ) → i < places → (row_in g i).present ≡ true → (i ≡ Place.extended_state 1 → compacts_in g ≡ true)
      → RowShown (lost i) i (row_in g i).result (row_in h i).result
  pub standard : (subleaf g 0).ebx ≡ (subleaf h 0).ebx
  pub compacted : compacts_in g ≡ true → (subleaf g 1).ebx ≡ (subleaf h 1).ebx
  pub asked : (leaf : CpuidFunction) (sub : Option ℕ) (enforce : Bool) (r : CpuidResult) → lookup g leaf sub enforce ≡ Some r
      → AskedShown lost g h leaf sub enforce r

-- the last table's answer a beside the first view g: given and lasting, or 14, only where D.1.EAX has neither bit
pub data LifeOutcome (lost : ℕ → ℕ → Bool) (g : CpuidResults) (a : GuestAnswer) : Type 0 where
  given : a.verdict ≡ Ok tt → ViewLasts lost g a.table → LifeOutcome lost g a
  too_large : compacts_in g ≡ false → a.verdict ≡ Err CompactSizeTooLarge → LifeOutcome lost g a

-- any life from an accepted page set's table, and any processor whose state that table gives; a table of the code has 88 places
abbrev pub LifeShows : Type 0
LifeShows = (chosen : Choices) (s : List ℕ) (w : CpuidResults) → Life (answer chosen s).table w → length w.present ≤ places
    → (v : Processor) → (guest_pages chosen s v).verdict ≡ Ok tt
    → LifeOutcome (lost_bit (own_ymm (answer chosen s).table)) (guest_pages chosen s v).table (guest_answer w v)

-- a life that comes back: every table on the way, carried, has the rows of the first one carried; with bit 2 in D.0.EAX, uncarried too
pub record ComesBack (t u : CpuidResults) : Type 0 where
  pub ymm : own_ymm t ≡ own_ymm u
  pub carried : SameRows (latest t) (latest u)
  pub whole : own_ymm t ≡ true → SameRows t u

abbrev pub LifeComesBack : Type 0
LifeComesBack = (t u : CpuidResults) → Life t u → Life u t → ComesBack t u

-- tables with the rows of one table show every processor the same rows
abbrev pub EndsSeeTheSame : Type 0
EndsSeeTheSame = (t u w : CpuidResults) → SameRows t u → SameRows t w → Sound t → (v : Processor) → (guest_answer t v).verdict ≡ Ok tt
    → ((guest_answer u v).verdict ≡ Ok tt) × ((guest_answer w v).verdict ≡ Ok tt) × SameRows (guest_answer u v).table (guest_answer w v).table

-- so do two lives from one table whose ends lead back to it, as where the end compares as at most the start, if its D.0.EAX has bit 2
abbrev pub LivesSeeTheSame : Type 0
LivesSeeTheSame = (t u w : CpuidResults) → Life t u → Life u t → Life t w → Life w t → own_ymm t ≡ true → Sound t
    → (v : Processor) → (guest_answer t v).verdict ≡ Ok tt
    → ((guest_answer u v).verdict ≡ Ok tt) × ((guest_answer w v).verdict ≡ Ok tt) × SameRows (guest_answer u v).table (guest_answer w v).table

-- the first of these of tables that a caller keeps: a life from memory in which pages were built
abbrev pub KeptLifeShows : Type 0
KeptLifeShows = (chosen : Choices) (s w o x q : List ℕ) → TableIn (answer chosen s) w o → Life (held_in w o) (held_in x q)
    → (v : Processor) → (guest_pages chosen s v).verdict ≡ Ok tt
    → LifeOutcome (lost_bit (own_ymm (answer chosen s).table)) (guest_pages chosen s v).table (guest_answer (held_in x q) v)
