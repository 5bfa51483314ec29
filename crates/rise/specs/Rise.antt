-- Demand 3, for any two page sets A and B under the same choices of secure AVIC and edition (document 02, P7: "proved for any edition, the same
-- for A and B, in one argument"). Their pages "must be clean" (P10): an accepted set's are, and `lawful_verdict` asks it of B's.
-- "Let A be accepted and B of lawful length and counts, and
-- let B have, for every row of A's table but 0 and 80000000h, a first counted entry with at least the bits of A's in document 01's
-- feature registers and equal in all others that it doesn't free. Then B is refused exactly when a leaf 0xD subleaf that its own mask
-- needs has no counted entry, by refusal 3, or else a size overflows, by 5; and if accepted its table has every row of A's, beyond these
-- only the 0xD subleaves of its further mask bits, at least A's bits in every feature register, a save area no smaller, and every other
-- register of A's rows equal, as document 01 compares them."
use Rattle.std.specs.Prelude.{◌≡◌, Bool, true, false, List, ◌⊎◌, ℕ, ◌≤◌, ◌<◌, Err, Ok, Some}
use Rattle.bits.specs.Bits.{has, Within}
use Rattle.x86defs.specs.Functions.{ExtendedStateEnumeration}
use Rattle.pages.specs.Entries.{counted}
use Rattle.masking.specs.Masks.{apply_mask}
use Rattle.masking.specs.Kept.{places, masks_at}
use Rattle.masking.specs.Place
use Rattle.table.specs.declared.Choices.{Choices}
use Rattle.table.specs.declared.CpuidResults.{CpuidResults}
use Rattle.table.specs.declared.Refusal.TheVariants.{MissingRequiredResult, SaveAreaOverflow}
use Rattle.table.specs.Rows.{Row, Rows}
use Rattle.finish.specs.Finish.{rule_at}
use Rattle.finish.specs.Kinds.{EntryAtLeast, TableAtLeast, Registers, kinds_at, from_entry}
use Rattle.table.specs.Table.{row_in}
use Rattle.collect.specs.FirstEntries.{first_at}
use Rattle.build.specs.Build.{rows_for, answer}
use Rattle.collect.specs.Lawful.{lawful_verdict}
use Rattle.refusals.specs.Conditions.{Lacking, ComponentFault, AreaFault}
use Rattle.table.specs.Verdict.{Verdict}

-- B has a row at place i, and its registers compare with A's
pub record EntryRises (i : ℕ) (a b : Row) : Type 0 where
  pub present : b.present ≡ true
  pub registers : Registers EntryAtLeast (kinds_at i) a.result b.result

-- "for every row of A's table but 0 and 80000000h": entries are compared as masked, D.0.EAX with its bits 0 and 1 set
pub record RiseHypothesis (chosen : Choices) (a b : List ℕ) : Type 0 where
  pub accepted : (answer chosen a).verdict ≡ Ok tt
  pub lawful : lawful_verdict b ≡ Ok tt
  pub entries : (i : ℕ) → i < places → from_entry (rule_at i) ≡ true → (row_in (answer chosen a).table i).present ≡ true
      → EntryRises i (rows_for chosen a i) (rows_for chosen b i)

-- the same by the letter: a first counted entry, compared as masked and as nothing more
pub record FirstEntryRises (avic : Bool) (i : ℕ) (a b : Row) : Type 0 where
  pub present : b.present ≡ true
  pub registers : Registers EntryAtLeast (kinds_at i) (apply_mask (masks_at avic i) a.result) (apply_mask (masks_at avic i) b.result)

pub record HypothesisByTheLetter (chosen : Choices) (a b : List ℕ) : Type 0 where
  pub accepted : (answer chosen a).verdict ≡ Ok tt
  pub lawful : lawful_verdict b ≡ Ok tt
  pub entries : (i : ℕ) → i < places → from_entry (rule_at i) ≡ true → (row_in (answer chosen a).table i).present ≡ true
      → FirstEntryRises chosen.secure_avic i (first_at i (counted a)) (first_at i (counted b))

-- exactly one of three outcomes, each with its refusal or acceptance
pub data Outcome (m : Rows) (v : Verdict) : Type 0 where
  -- refusal 3 names the lowest needed subleaf without an entry
  missing : (k : ℕ) → ComponentFault m k → v ≡ Err (MissingRequiredResult ExtendedStateEnumeration (Some k)) → Outcome m v
  -- 5 is given where none is missing and a sum is too large
  overflow : ((k : ℕ) → Lacking m k → ⊥) → AreaFault m → v ≡ Err SaveAreaOverflow → Outcome m v
  accepted : ((k : ℕ) → Lacking m k → ⊥) → (AreaFault m → ⊥) → v ≡ Ok tt → Outcome m v

-- a subleaf of Dh that b's mask has and a's does not
pub record Further (a b : CpuidResults) (i : ℕ) : Type 0 where
  pub subleaf : ℕ
  pub place : i ≡ Place.extended_state subleaf
  pub from : 2 ≤ subleaf
  pub below : subleaf < 64
  pub in_b : has subleaf b.max_extended_state ≡ true
  pub not_in_a : has subleaf a.max_extended_state ≡ false

-- what an accepted B's table has
pub record TableRises (a b : CpuidResults) : Type 0 where
  pub rows : (i : ℕ) → i < places → (row_in a i).present ≡ true → (row_in b i).present ≡ true
  pub registers : (i : ℕ) → i < places → (row_in a i).present ≡ true
      → Registers TableAtLeast (kinds_at i) (row_in a i).result (row_in b i).result
  pub others : (i : ℕ) → i < places → (row_in b i).present ≡ true → ((row_in a i).present ≡ true) ⊎ Further a b i
  pub mask : Within a.max_extended_state b.max_extended_state

-- from A under one choice to B under another
pub record RiseTo (chosen other : Choices) (a b : List ℕ) : Type 0 where
  pub outcome : Outcome (rows_for other b) (answer other b).verdict
  pub table : (answer other b).verdict ≡ Ok tt → TableRises (answer chosen a).table (answer other b).table

abbrev pub RiseConclusion : Choices → List ℕ → List ℕ → Type 0
RiseConclusion chosen a b = RiseTo chosen chosen a b

abbrev pub Demand3 : Type 0
Demand3 = (chosen : Choices) (a b : List ℕ) → RiseHypothesis chosen a b → RiseConclusion chosen a b

abbrev pub Demand3ByTheLetter : Type 0
Demand3ByTheLetter = (chosen : Choices) (a b : List ℕ) → HypothesisByTheLetter chosen a b → RiseConclusion chosen a b

-- the same choices, but for the edition
abbrev pub with_edition : Choices → ℕ → Choices
with_edition chosen n = record { secure_avic = chosen.secure_avic; edition = n }

-- P7: edition 2 leaves nothing that edition 1 clears, so from edition 2 to edition 1 is a rise too
abbrev pub SecondToFirst : Type 0
SecondToFirst = (chosen : Choices) (a b : List ℕ) → chosen.edition ≡ 2 → RiseHypothesis chosen a b → RiseTo chosen (with_edition chosen 1) a b
