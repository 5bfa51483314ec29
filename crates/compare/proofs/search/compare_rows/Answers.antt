-- `compare::search::compare_rows` meets its contract: before each turn the places that are left give what all give.
use borrow.Author.Rules.{rules}
use mathlib.Core.Path.{sym, ◌∙◌}
use Rattle.bits.specs.ChoiceLaws.{pick_true, pick_false}
use Rattle.compare.specs.RowsComparedLaws.{compared_all, row_read_lem, turn_passes, turn_stops, turns_end}
use Rattle.compare.proofs.search.compare_rows.Goals as goal

pub loop-place-init : goal.loop-place-init
loop-place-init c = compared_all _ _ _

pub loop-place-preserved : goal.loop-place-preserved
loop-place-preserved c =
    c.loop-place.invariant
    ∙ turn_passes _ _ _ c.loop-place.place c.loop-place-test.true
    (row_read_lem c.args.a_registers.now c.args.a_origins.now c.loop-place.place c.is_there-in_a.ensures c.row_at-a.ensures)
    (row_read_lem c.args.b_registers.now c.args.b_origins.now c.loop-place.place c.is_there-in_b.ensures c.row_at-b.ensures)
    c.compare_row-found.ensures c.is_yes.ensures c.if-not-is_yes.false

pub returns-then-not-is_yes : goal.returns-then-not-is_yes
returns-then-not-is_yes c =
    turn_stops _ _ _ c.loop-place.place c.loop-place-test.true
    (row_read_lem c.args.a_registers.now c.args.a_origins.now c.loop-place.place c.is_there-in_a.ensures c.row_at-a.ensures)
    (row_read_lem c.args.b_registers.now c.args.b_origins.now c.loop-place.place c.is_there-in_b.ensures c.row_at-b.ensures)
    c.compare_row-found.ensures c.is_yes.ensures c.if-not-is_yes.true
    ∙ sym c.loop-place.invariant

pub returns-then-masks_rise : goal.returns-then-masks_rise
returns-then-masks_rise c =
    sym (pick_true _ _ (sym c.masks_rise.ensures ∙ c.if-masks_rise.true)) ∙ sym (c.loop-place.invariant ∙ turns_end _ _ _ c.loop-place.place (search rules))

pub returns : goal.returns
returns c =
    sym (pick_false _ _ (sym c.masks_rise.ensures ∙ c.if-masks_rise.false)) ∙ sym (c.loop-place.invariant ∙ turns_end _ _ _ c.loop-place.place (search rules))
