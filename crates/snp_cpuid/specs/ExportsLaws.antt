-- The numbers of a build, from the memory that it filled: nobody counts rows.
use Rattle.std.specs.Prelude.{◌≡◌, List, ℕ}
use Rattle.std.proofs.Common.{ap, ap₂, ◌∙◌}
use Rattle.table.specs.declared.Choices.{Choices}
use Rattle.memory.specs.Held.{mask_held}
use Rattle.build.specs.Build.{answer, InMemory}
use Rattle.counts.specs.BuiltRows.{built_rows, mask_in}
use Rattle.counts.proofs.BuiltRows.{rows_held}
use Rattle.answers.specs.Answers.{built_given, built_numbers}
use Rattle.table.specs.Verdict.{Verdict}

pub built_told : (c : Choices) (s : List ℕ) {w o : List ℕ} {v : Verdict} → InMemory (answer c s) v w o
    → built_given v (built_rows v (mask_held w)) (mask_held w) ≡ built_numbers (answer c s)
built_told c s {w} {v = v} k =
    ap (λ x. built_given x (built_rows v (mask_held w)) (mask_held w)) k.verdict ∙ ap₂ (built_given (answer c s).verdict) (rows_held c s k) (mask_in k)
