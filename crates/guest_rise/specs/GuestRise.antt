-- Document 02, P3: "The rise from server A to server B is wanted for guest answers with the same number, XCR0, XSS and OSXSAVE too,
-- except that where A's D.1.EBX is 0 for want of both bits, B's may be any size or refused by 14."
use Rattle.std.specs.Prelude.{◌≡◌, Bool, true, false, List, ◌⊎◌, ℕ, ◌<◌, Err, Ok}
use Rattle.bits.specs.Bits.{Within}
use Rattle.masking.specs.Kept.{places}
use Rattle.masking.specs.Place
use Rattle.x86defs.specs.declared.CpuidResult.{CpuidResult}
use Rattle.table.specs.declared.Choices.{Choices}
use Rattle.table.specs.declared.CpuidResults.{CpuidResults}
use Rattle.table.specs.declared.Refusal.TheVariants.{CompactSizeTooLarge}
use Rattle.table.specs.Table.{row_in}
use Rattle.finish.specs.Kinds.{TableAtLeast, Registers, kinds_at}
use Rattle.build.specs.Build.{answer}
use Rattle.rise.specs.Rise.{Further, RiseHypothesis}
use Rattle.guest_state.specs.State.{compacts}
use Rattle.guest.specs.declared.Processor.{Processor}
use Rattle.guest.specs.declared.GuestAnswer.{GuestAnswer}
use Rattle.guest.specs.GuestPages.{guest_pages}

-- whether D.1.EAX of a table has bit 1 or bit 3
abbrev pub compacts_in : CpuidResults → Bool
compacts_in t = compacts (row_in t (Place.extended_state 1)).result.eax

-- how the registers of two rows at a place compare, as tables do
abbrev pub RowRises : ℕ → CpuidResult → CpuidResult → Type 0
RowRises i r s = Registers TableAtLeast (kinds_at i) r s

-- how B's guest table compares with A's: as tables do (TableRises), D.0.EBX and D.1.EBX equal; of D.1.EBX nothing is said where A's
-- D.1.EAX has neither bit, and then D.1's other registers compare as before
pub record GuestTableRises (a b : CpuidResults) : Type 0 where
  pub rows : (i : ℕ) → i < places → (row_in a i).present ≡ true → (row_in b i).present ≡ true
  pub registers : (i : ℕ) → i < places → (row_in a i).present ≡ true → (i ≡ Place.extended_state 1 → compacts_in a ≡ true)
      → RowRises i (row_in a i).result (row_in b i).result
  pub xsave_eax : Within (row_in a (Place.extended_state 1)).result.eax (row_in b (Place.extended_state 1)).result.eax
  pub xsave_ecx : Within (row_in a (Place.extended_state 1)).result.ecx (row_in b (Place.extended_state 1)).result.ecx
  pub xsave_edx : (row_in a (Place.extended_state 1)).result.edx ≡ (row_in b (Place.extended_state 1)).result.edx
  pub others : (i : ℕ) → i < places → (row_in b i).present ≡ true → ((row_in a i).present ≡ true) ⊎ Further a b i
  pub mask : Within a.max_extended_state b.max_extended_state

-- B's answer g, beside A's guest table
pub data GuestOutcome (a : CpuidResults) (g : GuestAnswer) : Type 0 where
  given : g.verdict ≡ Ok tt → GuestTableRises a g.table → GuestOutcome a g
  -- 14, only where A's D.1.EAX has neither bit
  too_large : compacts_in a ≡ false → g.verdict ≡ Err CompactSizeTooLarge → GuestOutcome a g

abbrev pub GuestRise : Type 0
GuestRise = (chosen : Choices) (a b : List ℕ) (v : Processor) → RiseHypothesis chosen a b → (answer chosen b).verdict ≡ Ok tt
    → (guest_pages chosen a v).verdict ≡ Ok tt → GuestOutcome (guest_pages chosen a v).table (guest_pages chosen b v)
