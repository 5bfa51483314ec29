-- Document 02, P3, the rise of guest answers whole: "The rise from server A to server B is wanted for guest answers with the same number, XCR0, XSS
-- and OSXSAVE too, except that where A's D.1.EBX is 0 for want of both bits, B's may be any size or refused by 14." From a guest that A gives its
-- table, B's answer is one of four, as B's own rows decide: refused by 3 or by 5, as demand 3 has it and for its reasons; refused by 14, only where
-- A's D.1.EAX has neither bit; or given, and the guest's table rises from A's. 13 never stands in the way.
use Rattle.std.specs.Prelude.{◌≡◌, false, List, ℕ, Ok, Some}
use Rattle.x86defs.specs.Functions.{ExtendedStateEnumeration}
use Rattle.table.specs.declared.Choices.{Choices}
use Rattle.table.specs.declared.CpuidResults.{CpuidResults}
use Rattle.table.specs.declared.Refusal.TheVariants.{MissingRequiredResult, SaveAreaOverflow, CompactSizeTooLarge}
use Rattle.table.specs.Rows.{Rows}
use Rattle.build.specs.Build.{rows_for}
use Rattle.refusals.specs.Conditions.{Lacking, ComponentFault, AreaFault}
use Rattle.rise.specs.Rise.{RiseHypothesis}
use Rattle.guest.specs.declared.Processor.{Processor}
use Rattle.guest.specs.declared.GuestAnswer.{GuestAnswer}
use Rattle.guest.specs.Guest.{refused_answer}
use Rattle.guest.specs.GuestPages.{guest_pages}
use Rattle.guest_rise.specs.GuestRise.{compacts_in, GuestTableRises}

-- m: B's rows. a: A's guest table. g: B's answer, a refusal with the empty table
pub data GuestRisen (m : Rows) (a : CpuidResults) (g : GuestAnswer) : Type 0 where
  missing : (k : ℕ) → ComponentFault m k → g ≡ refused_answer (MissingRequiredResult ExtendedStateEnumeration (Some k)) → GuestRisen m a g
  overflow : ((k : ℕ) → Lacking m k → ⊥) → AreaFault m → g ≡ refused_answer SaveAreaOverflow → GuestRisen m a g
  too_large : ((k : ℕ) → Lacking m k → ⊥) → (AreaFault m → ⊥) → compacts_in a ≡ false → g ≡ refused_answer CompactSizeTooLarge → GuestRisen m a g
  given : ((k : ℕ) → Lacking m k → ⊥) → (AreaFault m → ⊥) → g.verdict ≡ Ok tt → GuestTableRises a g.table → GuestRisen m a g

abbrev pub GuestRiseAll : Type 0
GuestRiseAll = (chosen : Choices) (a b : List ℕ) (v : Processor) → RiseHypothesis chosen a b → (guest_pages chosen a v).verdict ≡ Ok tt
    → GuestRisen (rows_for chosen b) (guest_pages chosen a v).table (guest_pages chosen b v)
