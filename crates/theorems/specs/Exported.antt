-- Demand 3 of what the exported functions return: snp_cpuid_build and snp_cpuid_lookup give `built_numbers` and `found_in` of the
-- definition's answers (crates/snp_cpuid/src/lib.rt), and these rise from A to B. Left out is snp_cpuid_write_image: what it returns and
-- writes is the image of the same table, by its contract and `each_write_exactly`.
use Rattle.std.specs.Prelude.{◌≡◌, Bool, List, ◌⊎◌, ℕ, Ok, Option}
use Rattle.bits.specs.Bits.{Within}
use Rattle.x86defs.specs.declared.CpuidFunction.{CpuidFunction}
use Rattle.x86defs.specs.declared.CpuidResult.{CpuidResult}
use Rattle.x86defs.specs.Functions.{cpuid_result}
use Rattle.table.specs.declared.Choices.{Choices}
use Rattle.table.specs.Rows.{Rows}
use Rattle.finish.specs.Kinds.{TableAtLeast, Registers, kinds_at}
use Rattle.build.specs.Build.{rows_for, answer, origin_at}
use Rattle.lookup.specs.Lookup.{place_asked}
use Rattle.refusals.specs.Conditions.{Lacking, ComponentFault, AreaFault}
use Rattle.rise.specs.Rise.{RiseHypothesis, Further}
use Rattle.compare.specs.Compare.{compared}
use Rattle.answers.specs.declared.SnpCpuidBuilt.{SnpCpuidBuilt}
use Rattle.answers.specs.declared.SnpCpuidFound.{SnpCpuidFound}
use Rattle.answers.specs.Answers.{built_numbers}
use Rattle.answers.specs.ComparedAnswers.{compared_numbers}
use Rattle.snp_cpuid.specs.Exports.{found_in}
use Rattle.memory.specs.declared.origins.OriginRead.{OriginRead}
use Rattle.memory.specs.Origin.{origin_told}

-- what snp_cpuid_build gives a page set, and snp_cpuid_lookup
abbrev pub built : Choices → List ℕ → SnpCpuidBuilt
built chosen s = built_numbers (answer chosen s)

abbrev pub found : Choices → List ℕ → CpuidFunction → Option ℕ → Bool → SnpCpuidFound
found chosen s leaf subleaf enforce = found_in (answer chosen s) leaf.0 subleaf enforce

abbrev pub registers_of : SnpCpuidFound → CpuidResult
registers_of f = cpuid_result f.eax f.ebx f.ecx f.edx

-- number, leaf, subleaf and s of a refusal, with no rows and no mask
abbrev pub refused_numbers : ℕ → ℕ → ℕ → ℕ → SnpCpuidBuilt
refused_numbers number leaf named subleaf = record {
  number = number;
  leaf = leaf;
  has_subleaf = named;
  subleaf = subleaf;
  s = 0;
  row_count = 0;
  max_extended_state = 0;
}

-- B's answer is one of three, as its own rows decide
pub data BuiltRises (m : Rows) (n : SnpCpuidBuilt) : Type 0 where
  refused_3 : (k : ℕ) → ComponentFault m k → n ≡ refused_numbers 3 0xD 1 k → BuiltRises m n
  refused_5 : ((k : ℕ) → Lacking m k → ⊥) → AreaFault m → n ≡ refused_numbers 5 0 0 0 → BuiltRises m n
  accepted_0 : ((k : ℕ) → Lacking m k → ⊥) → (AreaFault m → ⊥) → n.number ≡ 0 → BuiltRises m n

pub record ExportsRise (chosen : Choices) (a b : List ℕ) : Type 0 where
  pub answers : BuiltRises (rows_for chosen b) (built chosen b)
  -- where B is accepted: at least A's mask, and whatever is found in A's table is found in B's with registers that compare
  pub mask : (built chosen b).number ≡ 0 → Within (built chosen a).max_extended_state (built chosen b).max_extended_state
  pub rows : (built chosen b).number ≡ 0 → (leaf : CpuidFunction) (subleaf : Option ℕ) (enforce : Bool) → (found chosen a leaf subleaf enforce).found ≡ 1
      → ((found chosen b leaf subleaf enforce).found ≡ 1)
      × Registers TableAtLeast (kinds_at (place_asked leaf subleaf enforce)) (registers_of (found chosen a leaf subleaf enforce))
      (registers_of (found chosen b leaf subleaf enforce))
  -- beyond these only: what is found in B's table and not in A's is a Dh subleaf from 2 up that B's mask has and A's has not
  pub others : (built chosen b).number ≡ 0 → (leaf : CpuidFunction) (subleaf : Option ℕ) (enforce : Bool) → (found chosen b leaf subleaf enforce).found ≡ 1
      → ((found chosen a leaf subleaf enforce).found ≡ 1) ⊎ Further (answer chosen a).table (answer chosen b).table (place_asked leaf subleaf enforce)

abbrev pub compare_answer : Choices → List ℕ → List ℕ → ℕ
compare_answer chosen a b = (compared_numbers (compared chosen a b)).answer

pub record ExportsCompare (chosen : Choices) (a b : List ℕ) : Type 0 where
  pub yes : compare_answer chosen a b ≡ 0 → RiseHypothesis chosen a b × ExportsRise chosen a b
  pub complete : RiseHypothesis chosen a b → compare_answer chosen a b ≡ 0

abbrev pub origin_found : SnpCpuidFound → OriginRead
origin_found f = record { origin = f.origin; page = f.page; position = f.entry }

abbrev pub FoundOrigins : Type 0
FoundOrigins = (chosen : Choices) (s : List ℕ) (leaf : CpuidFunction) (subleaf : Option ℕ) (enforce : Bool) → (answer chosen s).verdict ≡ Ok tt
    → (found chosen s leaf subleaf enforce).found ≡ 1
    → origin_found (found chosen s leaf subleaf enforce) ≡ origin_told (origin_at chosen s (place_asked leaf subleaf enforce))
