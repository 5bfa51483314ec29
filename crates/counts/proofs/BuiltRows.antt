-- The row count of a built table from its verdict and its combined mask alone, so that nobody counts rows: document 01, "one for each combined bit
-- from 2 up".
use Rattle.std.specs.Prelude.{◌≡◌, refl, List, ℕ, Err, Ok}
use Rattle.std.proofs.Common.{sym, ap, ap₂, ◌∙◌}
use Rattle.table.specs.declared.Choices.{Choices}
use Rattle.memory.specs.Held.{mask_held}
use Rattle.build.specs.Build.{answer, InMemory}
use Rattle.build.proofs.BuildLaws.{answer_refused}
use Rattle.counts.specs.CountsProof.{rows_counted}
use Rattle.counts.specs.BuiltRows.{built_rows, mask_in}
use Rattle.table.specs.Verdict.{Verdict}

pub answer_rows : (c : Choices) (s : List ℕ) → (answer c s).table.row_count ≡ built_rows (answer c s).verdict (answer c s).table.max_extended_state
unfolding built_rows
answer_rows c s = go (answer c s).verdict refl
  where
    go : (v : Verdict) → (answer c s).verdict ≡ v → (answer c s).table.row_count ≡ built_rows v (answer c s).table.max_extended_state
    go (Ok _) e = (rows_counted c s e).rows
    go (Err r) e = ap (λ b. b.table.row_count) (sym (answer_refused c s e))

pub rows_held : (c : Choices) (s : List ℕ) {w o : List ℕ} {v : Verdict} → InMemory (answer c s) v w o
    → built_rows v (mask_held w) ≡ (answer c s).table.row_count
rows_held c s k = ap₂ built_rows k.verdict (mask_in k) ∙ sym (answer_rows c s)
