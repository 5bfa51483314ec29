-- `answers::table_numbers` meets its contract: count and mask are those of the table that the memory holds.
use borrow.Author.Rules.{rules}
use mathlib.Core.Path.{◌≡◌, ap₂, sym, ◌∙◌}
use Prim.Native.Nat.{ℕ}
use Rattle.memory.specs.Held.{mask_held_lem}
use Rattle.answers.specs.Answers.{built_given}
use Rattle.answers.proofs.table_numbers.Goals as goal

pub returns : goal.returns
returns c =
    c.built_numbers.ensures
    ∙ ap₂ (λ (k x : ℕ). built_given c.args.verdict k x) (c.row_count.ensures c.args.registers.now)
    (c.combined_mask.ensures ∙ sym (mask_held_lem c.args.registers.now c.args.origins.now))
