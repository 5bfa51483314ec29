-- The exported numbers are as Told.antt says, field by field.
use Rattle.std.specs.Prelude.{◌≡◌, refl, Bool, ℕ, ◌/◌, Err, None, Ok, Option, Result, Some}
use Rattle.std.proofs.Common.{sym, ap, ◌∙◌}
use Rattle.topology.specs.declared.TopologyError.TheVariants.{Hyperthreading, ProcessorCount, ThreadsPerUnit}
use Rattle.table.specs.declared.CpuidResults.{CpuidResults}
use Rattle.table.specs.declared.Refusal.{Refusal}
use Rattle.table.specs.declared.Refusal.TheVariants.{PagesLength, PageCount, MissingRequiredResult, InvlpgbUnavailable, SaveAreaOverflow, TopologyInconsistent, BufferTooShort, ListLength, ListRows, ListFields, StateBeyondTable, CompactSizeTooLarge, UnknownEdition, EditionBack, ReservedBytes, PoolSets, PoolDiffers, NothingDecides}
use Rattle.table.specs.declared.numbers.AnswerNumbers.{AnswerNumbers}
use Rattle.table.specs.Numbers.{named, subleaf_or0, subleaf_of, numbers_of, refusal_numbers}
use Rattle.memory.specs.Origin.{origin_read}
use Rattle.memory.specs.OriginLaws.{entry_read, neither_read, made_read, not_known_read}
use Rattle.memory.specs.declared.origins.OriginRead.{OriginRead}
use Rattle.build.specs.declared.Built.{Built}
use Rattle.compare.specs.declared.registers.Register.{Register}
use Rattle.compare.specs.declared.registers.Register.TheVariants.{Eax, Ebx, Ecx, Edx}
use Rattle.compare.specs.Registers.{order}
use Rattle.compare.specs.declared.Compared.{Compared}
use Rattle.compare.specs.declared.Compared.TheVariants.{Rises, RefusedA, UnlawfulB, NoEntry, Differs}
use Rattle.compare.specs.declared.search.RowsCompared.{RowsCompared as TablesCompared}
use Rattle.compare.specs.declared.search.RowsCompared.TheVariants.{Rises as TablesRise, NoRow, Differs as RowDiffers, Beyond, MaskLacks}
use Rattle.pool.specs.declared.Pooled.{Pooled}
use Rattle.answers.specs.Answers.{choices_of, processor_of, held_numbers, built_numbers, found_given, found_numbers, guest_found_numbers, state_numbers, counts_of, read_with, first_given, written_numbers}
use Rattle.answers.specs.CarriedAnswers.{carried_numbers}
use Rattle.answers.specs.ComparedAnswers.{compared_numbers, tables_compared_numbers}
use Rattle.answers.specs.PoolAnswers.{pooled_numbers}
use Rattle.answers.specs.NearestAnswers.{nearest_numbers}
use Rattle.answers.specs.LineAnswers.{details_given, line_written_numbers, line_read_numbers}
use Rattle.answers.specs.Told.{SubleafTold, RefusalTold, VerdictTold, RegisterTold, OriginNumbers, ChoicesGiven, ProcessorGiven, SubleafGiven, DetailsGiven, HeldTold, GivenTold, FoundTold, NumberTold, GuestTold, StateTold, CountsTold, ReadTold, FirstTold, WrittenTold, CarriedTold, ComparedTold, TablesTold, PooledTold, NearestTold, LineWrittenTold, LineTold, verdict_from}
use Rattle.answers.specs.Told.SubleafTold.{none, some}
use Rattle.answers.specs.Told.RefusalTold.{told_1, told_2, told_3, told_3_subleaf, told_4, told_5, told_6, told_7, told_8, told_9, told_10, told_11, told_12, told_13, told_14, told_15, told_16, told_17, told_18, told_19, told_20}
use Rattle.answers.specs.Told.VerdictTold.{accepted, refused}
use Rattle.answers.specs.Told.RegisterTold.{eax, ebx, ecx, edx}
use Rattle.buffer.specs.Written.{Written}
use Rattle.lines.specs.declared.bytes.LineDetails.{LineDetails}
use Rattle.lookup.specs.declared.FoundRow.{FoundRow}
use Rattle.nearest.specs.declared.flips.Flip.{Flip}
use Rattle.table.specs.Verdict.{Verdict}
use Rattle.x86defs.specs.declared.CpuidResult.{CpuidResult}

-- ---- subleaves, refusals, verdicts, registers, origins

-- ---- what a caller gives

-- ---- what a caller is given

-- ---- the proofs: each by the answer's cases

pub subleaf_told : (k : Option ℕ) → SubleafTold k (named k) (subleaf_or0 k)
subleaf_told None = none
subleaf_told (Some k) = some k

abbrev RefusalIn : Refusal → AnswerNumbers → Type 0
RefusalIn r n = RefusalTold r n.number n.leaf n.has_subleaf n.subleaf n.s

pub refusal_in : (r : Refusal) → RefusalIn r (refusal_numbers r)
refusal_in PagesLength = told_1
refusal_in PageCount = told_2
refusal_in (MissingRequiredResult l None) = told_3 l
refusal_in (MissingRequiredResult l (Some k)) = told_3_subleaf l k
refusal_in InvlpgbUnavailable = told_4
refusal_in SaveAreaOverflow = told_5
refusal_in (TopologyInconsistent (Hyperthreading s)) = told_6 s
refusal_in (TopologyInconsistent (ProcessorCount s)) = told_7 s
refusal_in (TopologyInconsistent ThreadsPerUnit) = told_8
refusal_in BufferTooShort = told_9
refusal_in ListLength = told_10
refusal_in ListRows = told_11
refusal_in ListFields = told_12
refusal_in StateBeyondTable = told_13
refusal_in CompactSizeTooLarge = told_14
refusal_in UnknownEdition = told_15
refusal_in EditionBack = told_16
refusal_in (ReservedBytes l) = told_17 l
refusal_in PoolSets = told_18
refusal_in PoolDiffers = told_19
refusal_in NothingDecides = told_20

abbrev VerdictIn : Verdict → AnswerNumbers → Type 0
VerdictIn v n = VerdictTold v n.number n.leaf n.has_subleaf n.subleaf n.s

pub verdict_in_lem : (v : Verdict) → VerdictIn v (numbers_of v)
verdict_in_lem (Ok _) = accepted
verdict_in_lem (Err r) = refused (refusal_in r)

refusal_back : {r : Refusal} {number leaf has subleaf s : ℕ} → RefusalTold r number leaf has subleaf s
    → verdict_from number leaf has subleaf s ≡ Err r
unfolding verdict_from
refusal_back told_1 = refl
refusal_back told_2 = refl
refusal_back (told_3 l) = refl
refusal_back (told_3_subleaf l k) = refl
refusal_back told_4 = refl
refusal_back told_5 = refl
refusal_back (told_6 s) = refl
refusal_back (told_7 s) = refl
refusal_back told_8 = refl
refusal_back told_9 = refl
refusal_back told_10 = refl
refusal_back told_11 = refl
refusal_back told_12 = refl
refusal_back told_13 = refl
refusal_back told_14 = refl
refusal_back told_15 = refl
refusal_back told_16 = refl
refusal_back (told_17 l) = refl
refusal_back told_18 = refl
refusal_back told_19 = refl
refusal_back told_20 = refl

pub verdict_back : {v : Verdict} {number leaf has subleaf s : ℕ} → VerdictTold v number leaf has subleaf s
    → verdict_from number leaf has subleaf s ≡ v
unfolding verdict_from
verdict_back accepted = refl
verdict_back (refused t) = refusal_back t

pub verdict_told_once : {v w : Verdict} {number leaf has subleaf s : ℕ} → VerdictTold v number leaf has subleaf s
    → VerdictTold w number leaf has subleaf s → v ≡ w
verdict_told_once t u = sym (verdict_back t) ∙ verdict_back u

number_in : (r : Refusal) → NumberTold r (refusal_numbers r).number
number_in r = record { leaf = _; has = _; subleaf = _; s = _; told = refusal_in r }

register_in : (r : Register) → RegisterTold r (order r)
register_in Eax = eax
register_in Ebx = ebx
register_in Ecx = ecx
register_in Edx = edx

-- three numbers by the record that holds them
three : {o : OriginRead} {a b c : ℕ} → o ≡ record { origin = a; page = b; position = c } → (o.origin ≡ a) × (o.page ≡ b) × (o.position ≡ c)
three e = (ap (λ (r : OriginRead). r.origin) e, ap (λ (r : OriginRead). r.page) e, ap (λ (r : OriginRead). r.position) e)

pub origin_in : (n : ℕ) → OriginNumbers n (origin_read n).origin (origin_read n).page (origin_read n).position
origin_in n = record {
  none = λ e. three (ap origin_read e ∙ neither_read);
  made = λ e. three (ap origin_read e ∙ made_read);
  unknown = λ e. three (ap origin_read e ∙ not_known_read);
  entry = λ p q l e. three (ap origin_read e ∙ entry_read p q l);
}

pub choices_given : (avic : Bool) (edition : ℕ) → ChoicesGiven avic edition (choices_of avic edition)
choices_given avic edition = record { avic = refl; edition = refl }

pub processor_given : (x2apic xcr0 xss : ℕ) (osxsave : Bool) → ProcessorGiven x2apic xcr0 xss osxsave (processor_of x2apic xcr0 xss osxsave)
processor_given x2apic xcr0 xss osxsave = record { x2apic = refl; xcr0 = refl; xss = refl; osxsave = refl }

pub subleaf_given : (k : ℕ) → SubleafGiven k
subleaf_given k = record { named = refl; none = refl }

pub details_given_lem : (number leaf : ℕ) (has : Bool) (subleaf s : ℕ) → DetailsGiven number leaf has subleaf s (details_given number leaf has subleaf s)
details_given_lem number leaf has subleaf s =
    record { number = refl; leaf = refl; named = λ e. ap (λ (b : Bool). subleaf_of b subleaf) e; none = λ e. ap (λ (b : Bool). subleaf_of b subleaf) e; s = refl }

pub held_told : (v : Verdict) (t : CpuidResults) → HeldTold v t (held_numbers v t)
held_told v t = record { verdict = verdict_in_lem v; rows = refl; mask = refl }

pub built_told : (b : Built) → HeldTold b.verdict b.table (built_numbers b)
built_told b = record { verdict = verdict_in_lem b.verdict; rows = refl; mask = refl }

pub given_told : (x : Option CpuidResult) (o : ℕ) → GivenTold x o (found_given x o)
given_told (Some r) o = record { found = refl; eax = refl; ebx = refl; ecx = refl; edx = refl; origin = origin_in o }
given_told None o = record { found = refl; eax = refl; ebx = refl; ecx = refl; edx = refl; origin = refl; page = refl; position = refl }

pub found_told : (f : Option FoundRow) → FoundTold f (found_numbers f)
found_told (Some f) = record { found = refl; eax = refl; ebx = refl; ecx = refl; edx = refl; origin = origin_in f.origin }
found_told None = record { found = refl; eax = refl; ebx = refl; ecx = refl; edx = refl; origin = refl; page = refl; position = refl }

pub guest_told : (f : Result (Option FoundRow) Refusal) → GuestTold f (guest_found_numbers f)
guest_told (Err r) =
    (number_in r, record { found = refl; eax = refl; ebx = refl; ecx = refl; edx = refl; origin = refl; page = refl; position = refl })
guest_told (Ok (Some f)) = (refl, record { found = refl; eax = refl; ebx = refl; ecx = refl; edx = refl; origin = origin_in f.origin })
guest_told (Ok None) =
    (refl, record { found = refl; eax = refl; ebx = refl; ecx = refl; edx = refl; origin = refl; page = refl; position = refl })

pub state_told : (s : Result ℕ Refusal) → StateTold s (state_numbers s)
state_told (Err r) = (number_in r, refl)
state_told (Ok size) = (refl, refl)

pub counts_told : (t : CpuidResults) → CountsTold t (counts_of t)
counts_told t = record { rows = refl; mask = refl }

pub read_told : (b : Bool) (t : CpuidResults) → ReadTold b t (read_with b t)
read_told b t = record {
  image = λ e. ap (λ (c : Bool). (read_with c t).is_image) e;
  none = λ e. ap (λ (c : Bool). (read_with c t).is_image) e;
  rows = refl;
  mask = refl;
}

pub first_told : (v : Verdict) (o : ℕ) → FirstTold v o (first_given v o)
first_told v o =
    let t = origin_in o in
    record {
      verdict = verdict_in_lem v;
      none = λ e. (ap (λ (k : ℕ). k / 2) (t.none e).0, (t.none e).1, (t.none e).2);
      entry = λ p q l e. (ap (λ (k : ℕ). k / 2) (t.entry p q l e).0, (t.entry p q l e).1, (t.entry p q l e).2);
    }

pub written_told : (w : Written) → WrittenTold w (written_numbers w)
written_told (Ok k) = (accepted, refl)
written_told (Err r) = (refused (refusal_in r), refl)

pub carried_told : (c : Option Verdict) → CarriedTold c (carried_numbers c)
carried_told None = (refl, refl)
carried_told (Some (Ok _)) = (refl, refl)
carried_told (Some (Err r)) = (refl, number_in r)

pub compared_told : (c : Compared) → ComparedTold c (compared_numbers c)
compared_told Rises = (refl, accepted, refl)
compared_told (RefusedA r) = (refl, refusal_in r, refl)
compared_told (UnlawfulB r) = (refl, refusal_in r, refl)
compared_told (NoEntry l sub) = (refl, refl, refl, subleaf_told sub, refl, refl)
compared_told (Differs l sub r) = (refl, refl, refl, subleaf_told sub, refl, register_in r)

pub tables_told : (c : TablesCompared) → TablesTold c (tables_compared_numbers c)
tables_told TablesRise = (refl, refl, none, refl)
tables_told (NoRow l sub) = (refl, refl, subleaf_told sub, refl)
tables_told (RowDiffers l sub r) = (refl, refl, subleaf_told sub, register_in r)
tables_told (Beyond l sub) = (refl, refl, subleaf_told sub, refl)
tables_told MaskLacks = (refl, refl, none, refl)

pub pooled_told : (p : Pooled) → PooledTold p (pooled_numbers p)
pooled_told p = record { verdict = verdict_in_lem p.verdict; server = refl; rows = refl; mask = refl }

pub nearest_told : (a : Result Flip Refusal) → NearestTold a (nearest_numbers a)
nearest_told (Ok f) = (accepted, record { page = refl; entry = refl; register = refl; bit = refl })
nearest_told (Err r) = (refusal_in r, record { page = refl; entry = refl; register = refl; bit = refl })

pub line_written_told : (w : Option Written) → LineWrittenTold w (line_written_numbers w)
line_written_told (Some (Ok k)) = (refl, refl, refl)
line_written_told (Some (Err r)) = (refl, number_in r, refl)
line_written_told None = (refl, refl, refl)

pub line_told : (l : Option LineDetails) → LineTold l (line_read_numbers l)
line_told (Some d) = record { is_line = refl; number = refl; leaf = refl; subleaf = subleaf_told d.subleaf; s = refl }
line_told None = record { is_line = refl; number = refl; leaf = refl; subleaf = none; s = refl }
