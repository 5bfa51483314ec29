-- What a check inside a running guest establishes. A processor's whole views (document 02, P3) of two accepted page sets' tables are equal row for
-- row if and only if the tables agree in every register but those that the view replaces: 1.EBX bits 24 to 31, 1.ECX bit 27, D.0.EBX and D.1.EBX. EDX
-- of B.0 and B.1, which the view replaces too, is 0 in both.
use Rattle.std.specs.Prelude.{◌≡◌, List, ◌↔◌, ◌≢◌, ℕ, ◌<◌, Ok}
use Rattle.bits.specs.Bits.{bit}
use Rattle.x86defs.specs.declared.CpuidResult.{CpuidResult}
use Rattle.masking.specs.Kept.{places}
use Rattle.masking.specs.Place
use Rattle.table.specs.declared.Choices.{Choices}
use Rattle.table.specs.declared.CpuidResults.{CpuidResults}
use Rattle.table.specs.Table.{row_in}
use Rattle.build.specs.Build.{answer}
use Rattle.guest.specs.declared.Processor.{Processor}
use Rattle.guest.specs.GuestPages.{guest_pages}

-- row 1
pub record VersionAgrees (r q : CpuidResult) : Type 0 where
  pub eax : r.eax ≡ q.eax
  pub ebx : (k : ℕ) → k < 24 → bit k r.ebx ≡ bit k q.ebx
  pub ecx : (k : ℕ) → k < 32 → k ≢ 27 → bit k r.ecx ≡ bit k q.ecx
  pub edx : r.edx ≡ q.edx

-- rows D.0 and D.1
pub record AgreesButEbx (r q : CpuidResult) : Type 0 where
  pub eax : r.eax ≡ q.eax
  pub ecx : r.ecx ≡ q.ecx
  pub edx : r.edx ≡ q.edx

pub record TablesAgree (t u : CpuidResults) : Type 0 where
  pub present : (i : ℕ) → i < places → (row_in t i).present ≡ (row_in u i).present
  pub version : VersionAgrees (row_in t Place.version_and_features).result (row_in u Place.version_and_features).result
  pub state0 : AgreesButEbx (row_in t (Place.extended_state 0)).result (row_in u (Place.extended_state 0)).result
  pub state1 : AgreesButEbx (row_in t (Place.extended_state 1)).result (row_in u (Place.extended_state 1)).result
  pub elsewhere : (i : ℕ) → i < places → i ≢ Place.version_and_features → i ≢ Place.extended_state 0 → i ≢ Place.extended_state 1
      → (row_in t i).result ≡ (row_in u i).result
  pub count : t.row_count ≡ u.row_count
  pub mask : t.max_extended_state ≡ u.max_extended_state

-- equal row for row
abbrev pub SameView : CpuidResults → CpuidResults → Type 0
SameView a b = (i : ℕ) → i < places → row_in a i ≡ row_in b i

abbrev pub ViewsTell : Type 0
ViewsTell = (chosen other : Choices) (a b : List ℕ) (v : Processor)
    → (guest_pages chosen a v).verdict ≡ Ok tt → (guest_pages other b v).verdict ≡ Ok tt
    → SameView (guest_pages chosen a v).table (guest_pages other b v).table ↔ TablesAgree (answer chosen a).table (answer other b).table

-- and where they agree, a state that the one gives the other gives too
abbrev pub AgreeGives : Type 0
AgreeGives = (chosen other : Choices) (a b : List ℕ) (v : Processor) → (answer chosen a).verdict ≡ Ok tt → (answer other b).verdict ≡ Ok tt
    → TablesAgree (answer chosen a).table (answer other b).table → (guest_pages chosen a v).verdict ≡ (guest_pages other b v).verdict
