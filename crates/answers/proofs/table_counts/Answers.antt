-- `answers::table_counts` meets its contract: count and mask are those of the table that the memory holds.
use borrow.Author.Rules.{rules}
use mathlib.Core.Path.{◌≡◌, sym, ◌∙◌}
use Rattle.memory.specs.Held.{mask_held_lem}
use Rattle.answers.proofs.table_counts.Goals as goal

pub returns : goal.returns
returns c =
    let x = c.combined_mask.ensures ∙ sym (mask_held_lem c.args.registers.now c.args.origins.now) in
    λ t. record { row_count = c.row_count.ensures c.args.registers.now t; max_extended_state = x t }
