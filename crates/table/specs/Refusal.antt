-- Document 01, "Where each check stands": the number of each refusal, and the leaf, subleaf and s that it carries; those not named
-- are 0 or none. Numbers from 10 up are document 02's.
use Rattle.std.specs.Prelude.{[], ◌∷◌, ℕ, get_or, Err, None, Ok, Option}
use Rattle.x86defs.specs.Functions.{function}
use Rattle.topology.specs.declared.TopologyError.{TopologyError}
use Rattle.topology.specs.declared.TopologyError.TheVariants.{Hyperthreading, ProcessorCount, ThreadsPerUnit}
use Rattle.table.specs.declared.Refusal.{Refusal}
use Rattle.table.specs.declared.Refusal.TheVariants.{PagesLength, PageCount, MissingRequiredResult, InvlpgbUnavailable, SaveAreaOverflow, TopologyInconsistent, BufferTooShort, ListLength, ListRows, ListFields, StateBeyondTable, CompactSizeTooLarge, UnknownEdition, EditionBack, ReservedBytes, PoolSets, PoolDiffers, NothingDecides}
use Rattle.table.specs.Verdict.{Verdict}

-- what a refusal tells
pub record Details : Type 0 where
  pub number : ℕ
  pub leaf : ℕ
  pub subleaf : Option ℕ
  pub s : ℕ

abbrev alone : ℕ → Details
alone n = record { number = n; leaf = 0; subleaf = None; s = 0 }

abbrev with_s : ℕ → ℕ → Details
with_s n s = record { number = n; leaf = 0; subleaf = None; s = s }

abbrev pub topology_details : TopologyError → Details
topology_details (Hyperthreading s) = with_s 6 s
topology_details (ProcessorCount s) = with_s 7 s
topology_details ThreadsPerUnit = alone 8

abbrev pub details : Refusal → Details
details PagesLength = alone 1
details PageCount = alone 2
details (MissingRequiredResult leaf subleaf) = record { number = 3; leaf = leaf.0; subleaf = subleaf; s = 0 }
details InvlpgbUnavailable = alone 4
details SaveAreaOverflow = alone 5
details (TopologyInconsistent e) = topology_details e
details BufferTooShort = alone 9
details ListLength = alone 10
details ListRows = alone 11
details ListFields = alone 12
details StateBeyondTable = alone 13
details CompactSizeTooLarge = alone 14
details UnknownEdition = alone 15
details EditionBack = alone 16
details (ReservedBytes leaf) = record { number = 17; leaf = leaf.0; subleaf = None; s = 0 }
details PoolSets = alone 18
details PoolDiffers = alone 19
details NothingDecides = alone 20

-- the refusal that a number and its details tell
abbrev pub refusal_with : Details → Refusal
refusal_with d =
    get_or
    (PagesLength
    ∷ PagesLength
    ∷ PageCount
    ∷ MissingRequiredResult (function d.leaf) d.subleaf
    ∷ InvlpgbUnavailable
    ∷ SaveAreaOverflow
    ∷ TopologyInconsistent (Hyperthreading d.s)
    ∷ TopologyInconsistent (ProcessorCount d.s)
    ∷ TopologyInconsistent ThreadsPerUnit
    ∷ BufferTooShort
    ∷ ListLength
    ∷ ListRows
    ∷ ListFields
    ∷ StateBeyondTable
    ∷ CompactSizeTooLarge
    ∷ UnknownEdition
    ∷ EditionBack
    ∷ ReservedBytes (function d.leaf)
    ∷ PoolSets
    ∷ PoolDiffers
    ∷ NothingDecides
    ∷ [])
    d.number PagesLength

-- the first check that fails decides
abbrev pub and_then : Verdict → Verdict → Verdict
and_then (Ok _) v = v
and_then (Err r) v = Err r
