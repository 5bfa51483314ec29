-- The join as the code makes it, in the memory of the first server: registers joined where they stand, and a flag a place that says whether the
-- servers so far are like the first there.
use Rattle.std.specs.Prelude.{◌≡◌, Bool, true, false, ◌&&◌, List, ℕ, get_or}
use Rattle.bits.specs.Choice.{pick}
use Rattle.bits.specs.Search.{every}
use Rattle.bits.specs.Lists.{tabulate}
use Rattle.x86defs.specs.declared.CpuidResult.{CpuidResult}
use Rattle.masking.specs.Kept.{places}
use Rattle.memory.specs.Memory.{row_of, is_there, layout}
use Rattle.finish.specs.Kinds.{kinds_at}
use Rattle.register_masks.specs.Join.{pooled_results}
use Rattle.register_masks.specs.Alike.{registers_alike}

-- a place's entry with one server's more, and whether it was like the first so far and that server's is too
abbrev pub joined_row : (ℕ → CpuidResult) → (ℕ → CpuidResult) → ℕ → CpuidResult
joined_row a b i = pooled_results (kinds_at i) (a i) (b i)

abbrev pub found_alike : List Bool → (ℕ → CpuidResult) → (ℕ → CpuidResult) → ℕ → Bool
found_alike alike a b i = get_or alike i false && registers_alike (kinds_at i) (a i) (b i)

-- the registers w and the flags become v and found by the registers u of one server more
pub record Joins (w u : List ℕ) (alike : List Bool) (v : List ℕ) (found : List Bool) : Type 0 where
  pub registers : v ≡ layout (joined_row (row_of w) (row_of u))
  pub flags : found ≡ tabulate places (found_alike alike (row_of w) (row_of u))

-- whether every place that has a row is alike
unfoldable pub alike_where : List ℕ → List Bool → Bool
alike_where o alike = every (λ i. pick (is_there (get_or o i 0)) (get_or alike i false) true) places
