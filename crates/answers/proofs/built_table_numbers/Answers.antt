-- `answers::built_table_numbers` meets its contract: the mask that the memory holds, and the rows that it tells.
use borrow.Author.Rules.{rules}
use mathlib.Core.Path.{ap, ap₂, ◌∙◌}
use Prim.Native.Nat.{ℕ}
use Rattle.counts.specs.BuiltRows.{built_rows}
use Rattle.answers.specs.Answers.{built_given}
use Rattle.answers.proofs.built_table_numbers.Goals as goal

pub returns : goal.returns
returns c =
    c.built_numbers.ensures
    ∙ ap₂ (λ (k x : ℕ). built_given c.args.verdict k x) (c.built_rows.ensures ∙ ap (built_rows c.args.verdict) c.combined_mask-mask.ensures) c.combined_mask-mask.ensures
