-- The conditions of document 01's table "Where each check stands", each stated by itself, with those of document 02 that building gives.
use Rattle.std.specs.Prelude.{◌≡◌, true, false, List, ◌⊎◌, ◌≢◌, ℕ, ◌+◌, ◌*◌, ◌/◌, ◌%◌, ◌^◌, ◌≤◌, ◌<◌, eqb, length, get_or, Some}
use Rattle.bits.specs.Choice.{pick}
use Rattle.bits.specs.Bits.{bit}
use Rattle.x86defs.specs.Functions.{ExtendedStateEnumeration}
use Rattle.pages.specs.Layout.{count_of, entry_at}
use Rattle.topology.specs.declared.TopologyError.TheVariants.{Hyperthreading, ProcessorCount, ThreadsPerUnit}
use Rattle.topology.specs.Topology.{Inputs}
use Rattle.masking.specs.Place
use Rattle.table.specs.declared.Choices.{Choices}
use Rattle.table.specs.declared.Refusal.{Refusal}
use Rattle.table.specs.declared.Refusal.TheVariants.{PagesLength, PageCount, MissingRequiredResult, InvlpgbUnavailable, SaveAreaOverflow, TopologyInconsistent, UnknownEdition, ReservedBytes}
use Rattle.table.specs.Edition.{editions}
use Rattle.table.specs.Rows.{Rows}
use Rattle.checks.specs.Required.{required_at, required_count, place_required}
use Rattle.checks.specs.ExtendedState.{xfem, combined_mask}
use Rattle.checks.specs.TopologyInputs.{inputs_of}
use Rattle.build.specs.Build.{rows_for}

-- 15. document 02, P7: "an edition other than 1 or 2", before all others: below 1, or above the last (crates/table/specs/Edition.antt)
abbrev pub EditionFault : ℕ → Type 0
EditionFault n = (n < 1) ⊎ (editions < n)

-- 1. length: "0, or not a multiple of 4,096"
abbrev pub LengthFault : List ℕ → Type 0
LengthFault s = (length s ≡ 0) ⊎ (length s % 4096 ≢ 0)

-- 2. counts: "some page's count is above 64"
pub record CountFault (s : List ℕ) : Type 0 where
  pub page : ℕ
  pub inside : page < length s / 4096
  pub above : 64 < count_of s page

-- byte k of the eight reserved ones of the entry at position q of page p: document 01, "64 entries of 48 bytes from 16", "8 reserved at 40"
abbrev pub reserved_byte : List ℕ → ℕ → ℕ → ℕ → ℕ
reserved_byte s p q k = get_or s (4096 * p + 16 + 48 * q + 40 + k) 0

-- 17. document 02, P10: "a nonzero reserved byte in an entry below its page's count, naming leaf EAX_IN with no subleaf, first in page and entry
-- order, after 2 and before 3". The entry at position q of page p has one, and none before it has.
pub record ReservedFault (s : List ℕ) (p q : ℕ) : Type 0 where
  pub inside : p < length s / 4096
  pub below_count : q < count_of s p
  pub byte : ℕ
  pub reserved : byte < 8
  pub nonzero : reserved_byte s p q byte ≢ 0
  pub pages_before : (i j k : ℕ) → i < p → j < count_of s i → k < 8 → reserved_byte s i j k ≡ 0
  pub entries_before : (j k : ℕ) → j < q → k < 8 → reserved_byte s p j k ≡ 0

-- 3. required leaves, in list order: "no such row; names leaf and subleaf". The j-th of the two lists has no row, and all before it have.
pub record RequiredFault (m : Rows) (j : ℕ) : Type 0 where
  pub listed : j < required_count
  pub absent : (m (place_required j)).present ≡ false
  pub before : (i : ℕ) → i < j → (m (place_required i)).present ≡ true

-- 4. after these: "80000008h.EBX bit 3 (INVLPGB) clear"
abbrev pub InvlpgbFault : Rows → Type 0
InvlpgbFault m = bit 3 (m Place.extended_address_space_sizes).result.ebx ≡ 0

-- a D subleaf that the combined mask needs, from 2 up, and that is absent
pub record Lacking (m : Rows) (k : ℕ) : Type 0 where
  pub from : 2 ≤ k
  pub below : k < 64
  pub needed : bit k (combined_mask m) ≡ 1
  pub absent : (m (Place.extended_state k)).present ≡ false

-- 3. extended state, ascending: "a needed D subleaf is absent". Subleaf k is, and none below it.
pub record ComponentFault (m : Rows) (k : ℕ) : Type 0 where
  pub lacking : Lacking m k
  pub lowest : (j : ℕ) → j < k → Lacking m j → ⊥

-- 5. area size: "a sum overflows". The masked EAX + EBX of a subleaf from 2 up in XFEM is above 4,294,967,295.
pub record AreaFault (m : Rows) : Type 0 where
  pub subleaf : ℕ
  pub from : 2 ≤ subleaf
  pub below : subleaf < 64
  pub saved : bit subleaf (xfem m) ≡ 1
  pub large : 2 ^ 32 ≤ (m (Place.extended_state subleaf)).result.eax + (m (Place.extended_state subleaf)).result.ebx

-- 7. s = 0, mt = 1: lps must equal nc + 1; s = 1 to 7: nc + 1 at most 2^s and lps = 2^s
pub data ProcessorCountFault (i : Inputs) : Type 0 where
  legacy : i.s ≡ 0 → i.mt ≡ 1 → i.lps ≢ i.nc + 1 → ProcessorCountFault i
  too_many : 1 ≤ i.s → i.s ≤ 7 → 2 ^ i.s < i.nc + 1 → ProcessorCountFault i
  not_all : 1 ≤ i.s → i.s ≤ 7 → i.lps ≢ 2 ^ i.s → ProcessorCountFault i

-- 6. s = 0, mt = 0: nc must be 0 and lps at most 1; s = 1 to 7, once 7 does not apply: mt = 1
pub data HyperthreadingFault (i : Inputs) : Type 0 where
  many_cores : i.s ≡ 0 → i.mt ≡ 0 → i.nc ≢ 0 → HyperthreadingFault i
  many_processors : i.s ≡ 0 → i.mt ≡ 0 → 1 < i.lps → HyperthreadingFault i
  unsaid : 1 ≤ i.s → i.s ≤ 7 → i.mt ≢ 1 → HyperthreadingFault i

-- v: 1 or lps by the legacy method, else 2^s
abbrev pub processors_said : Inputs → ℕ
processors_said i = pick (eqb i.s 0) (pick (eqb i.mt 0) 1 i.lps) (2 ^ i.s)

-- 8. "t above 1, or t at least v"
abbrev pub ThreadsFault : Inputs → Type 0
ThreadsFault i = (1 < i.t) ⊎ (processors_said i ≤ i.t)

-- the checks in order. 6 and 7 exclude each other where s = 0; where s is 1 to 7, 7 comes first
pub data Check : Type 0 where
  edition length_of_pages page_counts reserved_bytes required_leaves invlpgb components save_area processor_count hyperthreading threads_per_unit : Check

abbrev pub rank : Check → ℕ
rank edition = 0
rank length_of_pages = 1
rank page_counts = 2
rank reserved_bytes = 3
rank required_leaves = 4
rank invlpgb = 5
rank components = 6
rank save_area = 7
rank processor_count = 8
rank hyperthreading = 9
rank threads_per_unit = 10

-- the condition of a check holds of a page set's bytes under the caller's choices, and the refusal names these details
abbrev pub Fault : Choices → List ℕ → Check → Refusal → Type 0
Fault chosen s edition r = EditionFault chosen.edition × (r ≡ UnknownEdition)
Fault chosen s length_of_pages r = LengthFault s × (r ≡ PagesLength)
Fault chosen s page_counts r = CountFault s × (r ≡ PageCount)
Fault chosen s reserved_bytes r = (p : ℕ) × (q : ℕ) × ReservedFault s p q × (r ≡ ReservedBytes (entry_at s p q).leaf)
Fault chosen s required_leaves r =
    (j : ℕ) × RequiredFault (rows_for chosen s) j × (r ≡ MissingRequiredResult (required_at j).leaf (required_at j).subleaf)
Fault chosen s invlpgb r = InvlpgbFault (rows_for chosen s) × (r ≡ InvlpgbUnavailable)
Fault chosen s components r = (k : ℕ) × ComponentFault (rows_for chosen s) k × (r ≡ MissingRequiredResult ExtendedStateEnumeration (Some k))
Fault chosen s save_area r = AreaFault (rows_for chosen s) × (r ≡ SaveAreaOverflow)
Fault chosen s processor_count r =
    ProcessorCountFault (inputs_of (rows_for chosen s)) × (r ≡ TopologyInconsistent (ProcessorCount (inputs_of (rows_for chosen s)).s))
Fault chosen s hyperthreading r =
    HyperthreadingFault (inputs_of (rows_for chosen s)) × (r ≡ TopologyInconsistent (Hyperthreading (inputs_of (rows_for chosen s)).s))
Fault chosen s threads_per_unit r = ThreadsFault (inputs_of (rows_for chosen s)) × (r ≡ TopologyInconsistent ThreadsPerUnit)
