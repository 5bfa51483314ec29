-- What one walk over the pages leaves in lent memory.
use Rattle.std.specs.Prelude.{◌≡◌, true, List, ℕ, Result}
use Rattle.pages.specs.Reserved.{reserved_of, all_clean}
use Rattle.memory.specs.Memory.{layout}
use Rattle.collect.specs.FirstEntries.{firsts_of}
use Rattle.collect.specs.FirstEntryOrigin.{found_origins}
use Rattle.x86defs.specs.declared.CpuidFunction.{CpuidFunction}

-- whether the reserved bytes of all entries are zero, or the leaf of the first entry where they are not; where they all are, the first entries and
-- where each stands
pub record Walked (s : List ℕ) (r : Result Unit CpuidFunction) (w o : List ℕ) : Type 0 where
  pub answer : r ≡ reserved_of s
  pub rows : all_clean s ≡ true → w ≡ layout (λ i. (firsts_of s i).result)
  pub stands : all_clean s ≡ true → o ≡ found_origins s
