-- The row count of a built table from its verdict and its combined mask alone, so that nobody counts rows: document 01, "one for each combined bit
-- from 2 up".
use Rattle.std.specs.Prelude.{◌≡◌, List, ℕ, ◌+◌, ◌/◌, ◌^◌, ◌<◌, Err, Ok}
use Rattle.std.proofs.Common.{sym, ap, ◌∙◌}
use Rattle.std.specs.Int.Count.{ones}
use Rattle.memory.specs.Held.{mask_held, mask_held_lem}
use Rattle.build.specs.declared.Built.{Built}
use Rattle.build.specs.Build.{InMemory}
use Rattle.image.specs.ComponentsLaws.{ones_sum}
use Rattle.counts.specs.Counts.{components_in}
use Rattle.table.specs.Verdict.{Verdict}

unfoldable pub built_rows : Verdict → ℕ → ℕ
built_rows (Ok _) x = 26 + components_in x
built_rows (Err r) x = 0

-- the combined mask is read from the memory that building filled
pub mask_in : {b : Built} {v : Verdict} {w o : List ℕ} → InMemory b v w o → mask_held w ≡ b.table.max_extended_state
mask_in {b} {v} {w} {o} k = sym (mask_held_lem w o) ∙ ap (λ t. t.max_extended_state) k.table

-- ---- the ones of the mask

pub components_ones : (x : ℕ) → x < 2 ^ 64 → ones (x / 2 ^ 2) ≡ components_in x
unfolding components_in
components_ones x h = ones_sum x h
