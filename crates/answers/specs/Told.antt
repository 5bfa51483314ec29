-- What each number that an exported function gives says of the answer that the definition gives, field by field, against figures and fields alone:
-- nothing here is said by the functions that make the numbers. For each refusal its number, leaf, subleaf and s stand in one table, `RefusalTold`.
use Rattle.std.specs.Prelude.{◌≡◌, Bool, true, false, ℕ, ◌+◌, ◌*◌, ◌<◌, eqb, Err, None, Ok, Option, Result, Some}
use Rattle.bits.specs.Choice.{pick}
use Rattle.x86defs.specs.declared.CpuidFunction.{CpuidFunction}
use Rattle.x86defs.specs.declared.CpuidResult.{CpuidResult}
use Rattle.topology.specs.declared.TopologyError.TheVariants.{Hyperthreading, ProcessorCount, ThreadsPerUnit}
use Rattle.table.specs.declared.Choices.{Choices}
use Rattle.table.specs.declared.CpuidResults.{CpuidResults}
use Rattle.table.specs.declared.Refusal.{Refusal}
use Rattle.table.specs.declared.Refusal.TheVariants.{PagesLength, PageCount, MissingRequiredResult, InvlpgbUnavailable, SaveAreaOverflow, TopologyInconsistent, BufferTooShort, ListLength, ListRows, ListFields, StateBeyondTable, CompactSizeTooLarge, UnknownEdition, EditionBack, ReservedBytes, PoolSets, PoolDiffers, NothingDecides}
use Rattle.table.specs.Refusal.{refusal_with}
use Rattle.table.specs.Numbers.{named, subleaf_of}
use Rattle.guest.specs.declared.Processor.{Processor}
use Rattle.compare.specs.declared.registers.Register.{Register}
use Rattle.compare.specs.declared.registers.Register.TheVariants.{Eax, Ebx, Ecx, Edx}
use Rattle.compare.specs.declared.Compared.{Compared}
use Rattle.compare.specs.declared.Compared.TheVariants.{Rises, RefusedA, UnlawfulB, NoEntry, Differs}
use Rattle.compare.specs.declared.search.RowsCompared.{RowsCompared as TablesCompared}
use Rattle.compare.specs.declared.search.RowsCompared.TheVariants.{Rises as TablesRise, NoRow, Differs as RowDiffers, Beyond, MaskLacks}
use Rattle.pool.specs.declared.Pooled.{Pooled}
use Rattle.lines.specs.declared.bytes.LineDetails.{LineDetails}
use Rattle.answers.specs.declared.SnpCpuidBuilt.{SnpCpuidBuilt}
use Rattle.answers.specs.declared.SnpCpuidFound.{SnpCpuidFound}
use Rattle.answers.specs.declared.SnpCpuidGuestFound.{SnpCpuidGuestFound}
use Rattle.answers.specs.declared.SnpCpuidState.{SnpCpuidState}
use Rattle.answers.specs.declared.SnpCpuidCounts.{SnpCpuidCounts}
use Rattle.answers.specs.declared.SnpCpuidRead.{SnpCpuidRead}
use Rattle.answers.specs.declared.SnpCpuidFirst.{SnpCpuidFirst}
use Rattle.answers.specs.declared.SnpCpuidWritten.{SnpCpuidWritten}
use Rattle.answers.specs.declared.carried_image.SnpCpuidCarried.{SnpCpuidCarried}
use Rattle.answers.specs.declared.comparison.SnpCpuidCompared.{SnpCpuidCompared}
use Rattle.answers.specs.declared.comparison.SnpCpuidTablesCompared.{SnpCpuidTablesCompared}
use Rattle.answers.specs.declared.pool_answer.SnpCpuidPooled.{SnpCpuidPooled}
use Rattle.answers.specs.declared.nearest_bit.SnpCpuidNearest.{SnpCpuidNearest}
use Rattle.answers.specs.declared.line.SnpCpuidLineWritten.{SnpCpuidLineWritten}
use Rattle.answers.specs.declared.line.SnpCpuidLineRead.{SnpCpuidLineRead}
use Rattle.buffer.specs.Written.{Written}
use Rattle.lookup.specs.declared.FoundRow.{FoundRow}
use Rattle.nearest.specs.declared.flips.Flip.{Flip}
use Rattle.table.specs.Verdict.{Verdict}

-- has_subleaf and subleaf
pub data SubleafTold : Option ℕ → ℕ → ℕ → Type 0 where
  none : SubleafTold None 0 0
  some : (k : ℕ) → SubleafTold (Some k) 1 k

-- number, leaf, has_subleaf, subleaf and s
pub data RefusalTold : Refusal → ℕ → ℕ → ℕ → ℕ → ℕ → Type 0 where
  told_1 : RefusalTold PagesLength 1 0 0 0 0
  told_2 : RefusalTold PageCount 2 0 0 0 0
  told_3 : (l : CpuidFunction) → RefusalTold (MissingRequiredResult l None) 3 l.0 0 0 0
  told_3_subleaf : (l : CpuidFunction) (k : ℕ) → RefusalTold (MissingRequiredResult l (Some k)) 3 l.0 1 k 0
  told_4 : RefusalTold InvlpgbUnavailable 4 0 0 0 0
  told_5 : RefusalTold SaveAreaOverflow 5 0 0 0 0
  told_6 : (s : ℕ) → RefusalTold (TopologyInconsistent (Hyperthreading s)) 6 0 0 0 s
  told_7 : (s : ℕ) → RefusalTold (TopologyInconsistent (ProcessorCount s)) 7 0 0 0 s
  told_8 : RefusalTold (TopologyInconsistent ThreadsPerUnit) 8 0 0 0 0
  told_9 : RefusalTold BufferTooShort 9 0 0 0 0
  told_10 : RefusalTold ListLength 10 0 0 0 0
  told_11 : RefusalTold ListRows 11 0 0 0 0
  told_12 : RefusalTold ListFields 12 0 0 0 0
  told_13 : RefusalTold StateBeyondTable 13 0 0 0 0
  told_14 : RefusalTold CompactSizeTooLarge 14 0 0 0 0
  told_15 : RefusalTold UnknownEdition 15 0 0 0 0
  told_16 : RefusalTold EditionBack 16 0 0 0 0
  told_17 : (l : CpuidFunction) → RefusalTold (ReservedBytes l) 17 l.0 0 0 0
  told_18 : RefusalTold PoolSets 18 0 0 0 0
  told_19 : RefusalTold PoolDiffers 19 0 0 0 0
  told_20 : RefusalTold NothingDecides 20 0 0 0 0

-- accepted is five zeros
pub data VerdictTold : Verdict → ℕ → ℕ → ℕ → ℕ → ℕ → Type 0 where
  accepted : VerdictTold (Ok tt) 0 0 0 0 0
  refused : {r : Refusal} {number leaf has subleaf s : ℕ} → RefusalTold r number leaf has subleaf s
      → VerdictTold (Err r) number leaf has subleaf s

-- EAX to EDX as 0 to 3
pub data RegisterTold : Register → ℕ → Type 0 where
  eax : RegisterTold Eax 0
  ebx : RegisterTold Ebx 1
  ecx : RegisterTold Ecx 2
  edx : RegisterTold Edx 3

-- an origin's number n as three: neither 0, made here 1, an entry 2 with its page and position, not known 3
pub record OriginNumbers (n origin page position : ℕ) : Type 0 where
  pub none : n ≡ 0 → (origin ≡ 0) × (page ≡ 0) × (position ≡ 0)
  pub made : n ≡ 1 → (origin ≡ 1) × (page ≡ 0) × (position ≡ 0)
  pub unknown : n ≡ 3 → (origin ≡ 3) × (page ≡ 0) × (position ≡ 0)
  pub entry : (p q : ℕ) → q < 64 → n ≡ 4 + 64 * p + q → (origin ≡ 2) × (page ≡ p) × (position ≡ q)

pub record ChoicesGiven (b : Bool) (n : ℕ) (c : Choices) : Type 0 where
  pub avic : c.secure_avic ≡ b
  pub edition : c.edition ≡ n

pub record ProcessorGiven (n x s : ℕ) (on : Bool) (v : Processor) : Type 0 where
  pub x2apic : v.x2apic ≡ n
  pub xcr0 : v.xcr0 ≡ x
  pub xss : v.xss ≡ s
  pub osxsave : v.osxsave ≡ on

-- a subleaf counts only where there is one
pub record SubleafGiven (k : ℕ) : Type 0 where
  pub named : subleaf_of true k ≡ Some k
  pub none : subleaf_of false k ≡ None

pub record DetailsGiven (n l : ℕ) (has : Bool) (k z : ℕ) (d : LineDetails) : Type 0 where
  pub number : d.number ≡ n
  pub leaf : d.leaf ≡ l
  pub named : has ≡ true → d.subleaf ≡ Some k
  pub none : has ≡ false → d.subleaf ≡ None
  pub s : d.s ≡ z

-- SnpCpuidBuilt
pub record HeldTold (v : Verdict) (t : CpuidResults) (n : SnpCpuidBuilt) : Type 0 where
  pub verdict : VerdictTold v n.number n.leaf n.has_subleaf n.subleaf n.s
  pub rows : n.row_count ≡ t.row_count
  pub mask : n.max_extended_state ≡ t.max_extended_state

-- the registers of a row, by name, with its origin's number o
pub record RowTold (r : CpuidResult) (o is a b c d from p q : ℕ) : Type 0 where
  pub found : is ≡ 1
  pub eax : a ≡ r.eax
  pub ebx : b ≡ r.ebx
  pub ecx : c ≡ r.ecx
  pub edx : d ≡ r.edx
  pub origin : OriginNumbers o from p q

pub record NoRowTold (is a b c d from p q : ℕ) : Type 0 where
  pub found : is ≡ 0
  pub eax : a ≡ 0
  pub ebx : b ≡ 0
  pub ecx : c ≡ 0
  pub edx : d ≡ 0
  pub origin : from ≡ 0
  pub page : p ≡ 0
  pub position : q ≡ 0

-- SnpCpuidFound, of what is looked up and the number of its origin; and of a row that was found with its origin
abbrev pub GivenTold : Option CpuidResult → ℕ → SnpCpuidFound → Type 0
GivenTold (Some r) o n = RowTold r o n.found n.eax n.ebx n.ecx n.edx n.origin n.page n.entry
GivenTold None o n = NoRowTold n.found n.eax n.ebx n.ecx n.edx n.origin n.page n.entry

abbrev pub FoundTold : Option FoundRow → SnpCpuidFound → Type 0
FoundTold (Some f) n = RowTold f.row f.origin n.found n.eax n.ebx n.ecx n.edx n.origin n.page n.entry
FoundTold None n = NoRowTold n.found n.eax n.ebx n.ecx n.edx n.origin n.page n.entry

-- a refusal that names nothing, so that its number is all
pub record NumberTold (r : Refusal) (number : ℕ) : Type 0 where
  pub leaf : ℕ
  pub has : ℕ
  pub subleaf : ℕ
  pub s : ℕ
  pub told : RefusalTold r number leaf has subleaf s

-- SnpCpuidGuestFound
abbrev pub GuestTold : Result (Option FoundRow) Refusal → SnpCpuidGuestFound → Type 0
GuestTold (Err r) n =
    NumberTold r n.number × NoRowTold n.found n.eax n.ebx n.ecx n.edx n.origin n.page n.entry
GuestTold (Ok (Some f)) n =
    (n.number ≡ 0) × RowTold f.row f.origin n.found n.eax n.ebx n.ecx n.edx n.origin n.page n.entry
GuestTold (Ok None) n =
    (n.number ≡ 0) × NoRowTold n.found n.eax n.ebx n.ecx n.edx n.origin n.page n.entry

-- SnpCpuidState
abbrev pub StateTold : Result ℕ Refusal → SnpCpuidState → Type 0
StateTold (Err r) n = NumberTold r n.number × (n.size ≡ 0)
StateTold (Ok size) n = (n.number ≡ 0) × (n.size ≡ size)

-- SnpCpuidCounts
pub record CountsTold (t : CpuidResults) (n : SnpCpuidCounts) : Type 0 where
  pub rows : n.row_count ≡ t.row_count
  pub mask : n.max_extended_state ≡ t.max_extended_state

-- SnpCpuidRead
pub record ReadTold (b : Bool) (t : CpuidResults) (n : SnpCpuidRead) : Type 0 where
  pub image : b ≡ true → n.is_image ≡ 1
  pub none : b ≡ false → n.is_image ≡ 0
  pub rows : n.row_count ≡ t.row_count
  pub mask : n.max_extended_state ≡ t.max_extended_state

-- SnpCpuidFirst, of a verdict and the number of an entry or 0
pub record FirstTold (v : Verdict) (o : ℕ) (n : SnpCpuidFirst) : Type 0 where
  pub verdict : VerdictTold v n.number n.leaf n.has_subleaf n.subleaf n.s
  pub none : o ≡ 0 → (n.found ≡ 0) × (n.page ≡ 0) × (n.entry ≡ 0)
  pub entry : (p q : ℕ) → q < 64 → o ≡ 4 + 64 * p + q → (n.found ≡ 1) × (n.page ≡ p) × (n.entry ≡ q)

-- SnpCpuidWritten
abbrev pub WrittenTold : Written → SnpCpuidWritten → Type 0
WrittenTold (Ok k) n = VerdictTold (Ok tt) n.number n.leaf n.has_subleaf n.subleaf n.s × (n.length ≡ k)
WrittenTold (Err r) n = VerdictTold (Err r) n.number n.leaf n.has_subleaf n.subleaf n.s × (n.length ≡ 0)

-- SnpCpuidCarried
abbrev pub CarriedTold : Option Verdict → SnpCpuidCarried → Type 0
CarriedTold None n = (n.is_image ≡ 0) × (n.number ≡ 0)
CarriedTold (Some (Ok _)) n = (n.is_image ≡ 1) × (n.number ≡ 0)
CarriedTold (Some (Err r)) n = (n.is_image ≡ 1) × NumberTold r n.number

-- SnpCpuidCompared: which answer, and what goes with it
abbrev pub ComparedTold : Compared → SnpCpuidCompared → Type 0
ComparedTold Rises n =
    (n.answer ≡ 0) × VerdictTold (Ok tt) n.number n.leaf n.has_subleaf n.subleaf n.s × (n.register_index ≡ 0)
ComparedTold (RefusedA r) n =
    (n.answer ≡ 1) × RefusalTold r n.number n.leaf n.has_subleaf n.subleaf n.s × (n.register_index ≡ 0)
ComparedTold (UnlawfulB r) n =
    (n.answer ≡ 2) × RefusalTold r n.number n.leaf n.has_subleaf n.subleaf n.s × (n.register_index ≡ 0)
ComparedTold (NoEntry l sub) n =
    (n.answer ≡ 3) × (n.number ≡ 0) × (n.leaf ≡ l.0) × SubleafTold sub n.has_subleaf n.subleaf × (n.s ≡ 0) × (n.register_index ≡ 0)
ComparedTold (Differs l sub r) n =
    (n.answer ≡ 4) × (n.number ≡ 0) × (n.leaf ≡ l.0) × SubleafTold sub n.has_subleaf n.subleaf × (n.s ≡ 0)
    × RegisterTold r n.register_index

-- SnpCpuidTablesCompared
abbrev pub TablesTold : TablesCompared → SnpCpuidTablesCompared → Type 0
TablesTold TablesRise n = (n.answer ≡ 0) × (n.leaf ≡ 0) × SubleafTold None n.has_subleaf n.subleaf × (n.register_index ≡ 0)
TablesTold (NoRow l sub) n =
    (n.answer ≡ 1) × (n.leaf ≡ l.0) × SubleafTold sub n.has_subleaf n.subleaf × (n.register_index ≡ 0)
TablesTold (RowDiffers l sub r) n =
    (n.answer ≡ 2) × (n.leaf ≡ l.0) × SubleafTold sub n.has_subleaf n.subleaf × RegisterTold r n.register_index
TablesTold (Beyond l sub) n =
    (n.answer ≡ 3) × (n.leaf ≡ l.0) × SubleafTold sub n.has_subleaf n.subleaf × (n.register_index ≡ 0)
TablesTold MaskLacks n = (n.answer ≡ 4) × (n.leaf ≡ 0) × SubleafTold None n.has_subleaf n.subleaf × (n.register_index ≡ 0)

-- SnpCpuidPooled
pub record PooledTold (p : Pooled) (n : SnpCpuidPooled) : Type 0 where
  pub verdict : VerdictTold p.verdict n.number n.leaf n.has_subleaf n.subleaf n.s
  pub server : n.server ≡ p.server
  pub rows : n.row_count ≡ p.table.row_count
  pub mask : n.max_extended_state ≡ p.table.max_extended_state

-- SnpCpuidNearest
pub record FlipTold (p e r b : ℕ) (n : SnpCpuidNearest) : Type 0 where
  pub page : n.page ≡ p
  pub entry : n.entry ≡ e
  pub register : n.register_index ≡ r
  pub bit : n.bit ≡ b

abbrev pub NearestTold : Result Flip Refusal → SnpCpuidNearest → Type 0
NearestTold (Ok f) n =
    VerdictTold (Ok tt) n.number n.leaf n.has_subleaf n.subleaf n.s × FlipTold f.page f.entry f.register f.bit n
NearestTold (Err r) n = RefusalTold r n.number n.leaf n.has_subleaf n.subleaf n.s × FlipTold 0 0 0 0 n

-- SnpCpuidLineWritten
abbrev pub LineWrittenTold : Option Written → SnpCpuidLineWritten → Type 0
LineWrittenTold (Some (Ok k)) n = (n.is_line ≡ 1) × (n.number ≡ 0) × (n.length ≡ k)
LineWrittenTold (Some (Err r)) n = (n.is_line ≡ 1) × NumberTold r n.number × (n.length ≡ 0)
LineWrittenTold None n = (n.is_line ≡ 0) × (n.number ≡ 0) × (n.length ≡ 0)

-- SnpCpuidLineRead
pub record LineReadTold (is r l : ℕ) (sub : Option ℕ) (z : ℕ) (n : SnpCpuidLineRead) : Type 0 where
  pub is_line : n.is_line ≡ is
  pub number : n.number ≡ r
  pub leaf : n.leaf ≡ l
  pub subleaf : SubleafTold sub n.has_subleaf n.subleaf
  pub s : n.s ≡ z

abbrev pub LineTold : Option LineDetails → SnpCpuidLineRead → Type 0
LineTold (Some d) n = LineReadTold 1 d.number d.leaf d.subleaf d.s n
LineTold None n = LineReadTold 0 0 0 None 0 n

-- five numbers tell one verdict: it is read back from them
unfoldable pub verdict_from : ℕ → ℕ → ℕ → ℕ → ℕ → Verdict
verdict_from number leaf has subleaf s =
    pick (eqb number 0) (Ok _) (Err (refusal_with (record { number = number; leaf = leaf; subleaf = subleaf_of (eqb has 1) subleaf; s = s })))
