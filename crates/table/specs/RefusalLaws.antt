-- A refusal is known by its number and details, and no refusal has number 0.
use Rattle.std.specs.Prelude.{◌≡◌, refl}
use Rattle.topology.specs.declared.TopologyError.TheVariants.{Hyperthreading, ProcessorCount, ThreadsPerUnit}
use Rattle.table.specs.declared.Refusal.{Refusal}
use Rattle.table.specs.declared.Refusal.TheVariants.{PagesLength, PageCount, MissingRequiredResult, InvlpgbUnavailable, SaveAreaOverflow, TopologyInconsistent, BufferTooShort, ListLength, ListRows, ListFields, StateBeyondTable, CompactSizeTooLarge, UnknownEdition, EditionBack, ReservedBytes, PoolSets, PoolDiffers, NothingDecides}
use Rattle.table.specs.Refusal.{details, refusal_with}

pub refusal_told : (r : Refusal) → refusal_with (details r) ≡ r
refusal_told PagesLength = refl
refusal_told PageCount = refl
refusal_told (MissingRequiredResult leaf subleaf) = refl
refusal_told InvlpgbUnavailable = refl
refusal_told SaveAreaOverflow = refl
refusal_told (TopologyInconsistent (Hyperthreading s)) = refl
refusal_told (TopologyInconsistent (ProcessorCount s)) = refl
refusal_told (TopologyInconsistent ThreadsPerUnit) = refl
refusal_told BufferTooShort = refl
refusal_told ListLength = refl
refusal_told ListRows = refl
refusal_told ListFields = refl
refusal_told StateBeyondTable = refl
refusal_told CompactSizeTooLarge = refl
refusal_told UnknownEdition = refl
refusal_told EditionBack = refl
refusal_told (ReservedBytes leaf) = refl
refusal_told PoolSets = refl
refusal_told PoolDiffers = refl
refusal_told NothingDecides = refl
