-- The answers as the exported functions give them: plain numbers, one for each detail.
use Rattle.std.specs.Prelude.{◌≡◌, refl, Bool, List, ℕ, ◌/◌, Err, None, Ok, Option, Result, Some}
use Rattle.bits.specs.Lists.{one}
use Rattle.x86defs.specs.declared.CpuidResult.{CpuidResult}
use Rattle.memory.specs.declared.origins.OriginRead.{OriginRead}
use Rattle.memory.specs.Origin.{origin_read}
use Rattle.build.specs.declared.Built.{Built}
use Rattle.table.specs.declared.Choices.{Choices}
use Rattle.table.specs.declared.CpuidResults.{CpuidResults}
use Rattle.lookup.specs.Lookup.{lookup, lookup_origin, with_origin}
use Rattle.guest.specs.declared.Processor.{Processor}
use Rattle.table.specs.declared.numbers.AnswerNumbers.{AnswerNumbers}
use Rattle.table.specs.Numbers.{numbers_of, refusal_numbers}
use Rattle.answers.specs.declared.SnpCpuidBuilt.{SnpCpuidBuilt}
use Rattle.answers.specs.declared.SnpCpuidFound.{SnpCpuidFound}
use Rattle.answers.specs.declared.SnpCpuidGuestFound.{SnpCpuidGuestFound}
use Rattle.answers.specs.declared.SnpCpuidState.{SnpCpuidState}
use Rattle.answers.specs.declared.SnpCpuidCounts.{SnpCpuidCounts}
use Rattle.answers.specs.declared.SnpCpuidRead.{SnpCpuidRead}
use Rattle.answers.specs.declared.SnpCpuidFirst.{SnpCpuidFirst}
use Rattle.answers.specs.declared.SnpCpuidWritten.{SnpCpuidWritten}
use Rattle.buffer.specs.Written.{Written}
use Rattle.lookup.specs.declared.FoundRow.{FoundRow}
use Rattle.table.specs.Verdict.{Verdict}
use Rattle.table.specs.declared.Refusal.{Refusal}

-- what a caller chooses
abbrev pub choices_of : Bool → ℕ → Choices
choices_of avic edition = record { secure_avic = avic; edition = edition }

-- the processor that a caller describes
abbrev pub processor_of : ℕ → ℕ → ℕ → Bool → Processor
processor_of n x s on = record { x2apic = n; xcr0 = x; xss = s; osxsave = on }

abbrev pub built_numbers_with : AnswerNumbers → ℕ → ℕ → SnpCpuidBuilt
built_numbers_with n rows mask = record {
  number = n.number;
  leaf = n.leaf;
  has_subleaf = n.has_subleaf;
  subleaf = n.subleaf;
  s = n.s;
  row_count = rows;
  max_extended_state = mask;
}

abbrev pub built_given : Verdict → ℕ → ℕ → SnpCpuidBuilt
built_given v rows mask = built_numbers_with (numbers_of v) rows mask

-- a verdict, and the count and mask of a table
abbrev pub held_numbers : Verdict → CpuidResults → SnpCpuidBuilt
held_numbers v t = built_given v t.row_count t.max_extended_state

abbrev pub built_numbers : Built → SnpCpuidBuilt
built_numbers b = held_numbers b.verdict b.table

-- the registers and where the row came from, or all zeros
abbrev pub found_with : CpuidResult → OriginRead → SnpCpuidFound
found_with r o = record {
  found = 1;
  eax = r.eax;
  ebx = r.ebx;
  ecx = r.ecx;
  edx = r.edx;
  origin = o.origin;
  page = o.page;
  entry = o.position;
}

abbrev pub nothing_found : SnpCpuidFound
nothing_found = record { found = 0; eax = 0; ebx = 0; ecx = 0; edx = 0; origin = 0; page = 0; entry = 0 }

abbrev pub found_given : Option CpuidResult → ℕ → SnpCpuidFound
found_given (Some r) n = found_with r (origin_read n)
found_given None n = nothing_found

-- the same of a row that was found with its origin
abbrev pub found_numbers : Option FoundRow → SnpCpuidFound
found_numbers (Some f) = found_with f.row (origin_read f.origin)
found_numbers None = nothing_found

pub given_located : (x : Option CpuidResult) (n : ℕ) → found_numbers (with_origin x n) ≡ found_given x n
given_located (Some r) n = refl
given_located None n = refl

-- the row that a lookup finds in a table, with its origin from the column of origins beside the table
abbrev pub found_at : CpuidResults → List ℕ → ℕ → Option ℕ → Bool → SnpCpuidFound
found_at t origins leaf subleaf enforce =
    found_given (lookup t (record { 0 = leaf }) subleaf enforce) (lookup_origin origins (record { 0 = leaf }) subleaf enforce)

-- where a first entry stands: found, which is 2 in an origin, is told as 1
abbrev pub first_with : AnswerNumbers → OriginRead → SnpCpuidFirst
first_with n o = record {
  number = n.number;
  leaf = n.leaf;
  has_subleaf = n.has_subleaf;
  subleaf = n.subleaf;
  s = n.s;
  found = o.origin / 2;
  page = o.page;
  entry = o.position;
}

abbrev pub first_given : Verdict → ℕ → SnpCpuidFirst
first_given v n = first_with (numbers_of v) (origin_read n)

abbrev pub written_with : AnswerNumbers → ℕ → SnpCpuidWritten
written_with n length = record {
  number = n.number;
  leaf = n.leaf;
  has_subleaf = n.has_subleaf;
  subleaf = n.subleaf;
  s = n.s;
  length = length;
}

abbrev pub written_numbers : Written → SnpCpuidWritten
written_numbers (Ok n) = record { number = 0; leaf = 0; has_subleaf = 0; subleaf = 0; s = 0; length = n }
written_numbers (Err r) = written_with (refusal_numbers r) 0

-- ---- of a table that the caller keeps

abbrev pub counts_of : CpuidResults → SnpCpuidCounts
counts_of t = record { row_count = t.row_count; max_extended_state = t.max_extended_state }

abbrev pub guest_found_with : ℕ → SnpCpuidFound → SnpCpuidGuestFound
guest_found_with n f = record {
  number = n;
  found = f.found;
  eax = f.eax;
  ebx = f.ebx;
  ecx = f.ecx;
  edx = f.edx;
  origin = f.origin;
  page = f.page;
  entry = f.entry;
}

-- 13 or 14 and nothing found, or what was found
abbrev pub guest_found_numbers : Result (Option FoundRow) Refusal → SnpCpuidGuestFound
guest_found_numbers (Err r) = guest_found_with (refusal_numbers r).number nothing_found
guest_found_numbers (Ok f) = guest_found_with 0 (found_numbers f)

abbrev pub state_numbers : Result ℕ Refusal → SnpCpuidState
state_numbers (Err r) = record { number = (refusal_numbers r).number; size = 0 }
state_numbers (Ok n) = record { number = 0; size = n }

-- whether bytes are an image, 1 or 0, with the counts of the table that they gave
abbrev pub read_with : Bool → CpuidResults → SnpCpuidRead
read_with b t = record { is_image = one b; row_count = t.row_count; max_extended_state = t.max_extended_state }
