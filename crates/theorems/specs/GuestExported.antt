-- P3's rise of what the exported guest functions return: snp_cpuid_guest_build and snp_cpuid_guest_lookup give `guest_numbers` and `guest_found` of the
-- definition's answers (crates/snp_cpuid/src/guest_exports.rt), and these rise from A to B, B refused or given. Left out is
-- snp_cpuid_write_guest_image, whose image is that of the same table. And P11: the guest's lookup tells the origin of the paravisor's row.
use Rattle.std.specs.Prelude.{◌≡◌, Bool, true, false, List, ◌⊎◌, ℕ, Option}
use Rattle.bits.specs.Bits.{Within}
use Rattle.x86defs.specs.declared.CpuidFunction.{CpuidFunction}
use Rattle.masking.specs.Place
use Rattle.table.specs.declared.Choices.{Choices}
use Rattle.table.specs.declared.CpuidResults.{CpuidResults}
use Rattle.table.specs.Rows.{Rows}
use Rattle.finish.specs.Kinds.{TableAtLeast, Registers, kinds_at}
use Rattle.build.specs.Build.{rows_for, origin_at}
use Rattle.lookup.specs.Lookup.{place_asked}
use Rattle.refusals.specs.Conditions.{Lacking, ComponentFault, AreaFault}
use Rattle.rise.specs.Rise.{Further}
use Rattle.guest.specs.declared.Processor.{Processor}
use Rattle.guest.specs.GuestPages.{guest_pages}
use Rattle.guest_rise.specs.GuestRise.{compacts_in}
use Rattle.answers.specs.declared.SnpCpuidBuilt.{SnpCpuidBuilt}
use Rattle.answers.specs.declared.SnpCpuidFound.{SnpCpuidFound}
use Rattle.snp_cpuid.specs.GuestExports.{guest_numbers, guest_found}
use Rattle.memory.specs.Origin.{origin_told}
use Rattle.theorems.specs.Exported.{registers_of, refused_numbers, origin_found}

-- what snp_cpuid_guest_build gives a page set, and snp_cpuid_guest_lookup
abbrev pub guest_built : Choices → List ℕ → Processor → SnpCpuidBuilt
guest_built chosen s v = guest_numbers (guest_pages chosen s v)

abbrev pub seen : Choices → List ℕ → Processor → CpuidFunction → Option ℕ → Bool → SnpCpuidFound
seen chosen s v leaf subleaf enforce = guest_found chosen s v leaf.0 subleaf enforce

-- B's answer is one of four, as its own rows decide; a is A's guest table
pub data GuestBuiltRises (m : Rows) (a : CpuidResults) (n : SnpCpuidBuilt) : Type 0 where
  refused_3 : (k : ℕ) → ComponentFault m k → n ≡ refused_numbers 3 0xD 1 k → GuestBuiltRises m a n
  refused_5 : ((k : ℕ) → Lacking m k → ⊥) → AreaFault m → n ≡ refused_numbers 5 0 0 0 → GuestBuiltRises m a n
  refused_14 : ((k : ℕ) → Lacking m k → ⊥) → (AreaFault m → ⊥) → compacts_in a ≡ false → n ≡ refused_numbers 14 0 0 0 → GuestBuiltRises m a n
  given_0 : ((k : ℕ) → Lacking m k → ⊥) → (AreaFault m → ⊥) → n.number ≡ 0 → GuestBuiltRises m a n

pub record GuestExportsRise (chosen : Choices) (a b : List ℕ) (v : Processor) : Type 0 where
  pub answers : GuestBuiltRises (rows_for chosen b) (guest_pages chosen a v).table (guest_built chosen b v)
  pub mask : (guest_built chosen b v).number ≡ 0 → Within (guest_built chosen a v).max_extended_state (guest_built chosen b v).max_extended_state
  -- whatever A's guest finds B's finds
  pub found : (guest_built chosen b v).number ≡ 0 → (leaf : CpuidFunction) (subleaf : Option ℕ) (enforce : Bool)
      → (seen chosen a v leaf subleaf enforce).found ≡ 1 → (seen chosen b v leaf subleaf enforce).found ≡ 1
  -- with registers that compare, D.0.EBX and D.1.EBX among those that are equal; of D.1 so where A's D.1.EAX has bit 1 or bit 3
  pub registers : (guest_built chosen b v).number ≡ 0 → (leaf : CpuidFunction) (subleaf : Option ℕ) (enforce : Bool)
      → (seen chosen a v leaf subleaf enforce).found ≡ 1
      → (place_asked leaf subleaf enforce ≡ Place.extended_state 1 → compacts_in (guest_pages chosen a v).table ≡ true)
      → Registers TableAtLeast (kinds_at (place_asked leaf subleaf enforce)) (registers_of (seen chosen a v leaf subleaf enforce))
      (registers_of (seen chosen b v leaf subleaf enforce))
  -- beyond these only a Dh subleaf from 2 up that B's mask has and A's has not
  pub others : (guest_built chosen b v).number ≡ 0 → (leaf : CpuidFunction) (subleaf : Option ℕ) (enforce : Bool)
      → (seen chosen b v leaf subleaf enforce).found ≡ 1
      → ((seen chosen a v leaf subleaf enforce).found ≡ 1)
      ⊎ Further (guest_pages chosen a v).table (guest_pages chosen b v).table (place_asked leaf subleaf enforce)

abbrev pub GuestOrigins : Type 0
GuestOrigins = (chosen : Choices) (s : List ℕ) (v : Processor) (leaf : CpuidFunction) (subleaf : Option ℕ) (enforce : Bool)
    → (seen chosen s v leaf subleaf enforce).found ≡ 1
    → origin_found (seen chosen s v leaf subleaf enforce) ≡ origin_told (origin_at chosen s (place_asked leaf subleaf enforce))
