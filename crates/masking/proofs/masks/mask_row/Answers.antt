-- `masking::masks::mask_row` meets its contract: in each stretch of places the row that the code gives is the table's, by computation over it.
use mathlib.Core.Path.{refl, ◌∙◌}
use Prim.Native.Nat.{◌+◌, ◌-◌, min, zero-le}
use native.Mathlib.Omega.{arith}
use Rattle.bits.specs.Lists.{tabulate}
use Rattle.masking.specs.Kept.{kept_leaves}
use Rattle.masking.specs.MaskTable.{row_of_place}
use Rattle.masking.specs.RunLaws.{on_run}
use Rattle.masking.proofs.masks.mask_row.Goals as goal

pub returns-then-place-lt-EXTENDED_STATE_0 : goal.returns-then-place-lt-EXTENDED_STATE_0
unfolding row_of_place kept_leaves tabulate
returns-then-place-lt-EXTENDED_STATE_0 c = record { value = c.row_from.ensures ∙ on_run (λ i. min (0 + (i - 0)) 4) row_of_place zero-le c.if-place-lt-EXTENDED_STATE_0.true refl; small = omega (arith, c.row_from.ensures) }

pub returns-then-place-lt-EXTENDED_MAX_FUNCTION : goal.returns-then-place-lt-EXTENDED_MAX_FUNCTION
unfolding row_of_place kept_leaves tabulate
returns-then-place-lt-EXTENDED_MAX_FUNCTION c = record { value = c.row_from-then-place-lt-EXTENDED_MAX_FUNCTION.ensures ∙ on_run (λ i. min (5 + (i - 6)) 7) row_of_place c.if-place-lt-EXTENDED_STATE_0.false c.if-place-lt-EXTENDED_MAX_FUNCTION.true refl; small = omega (arith, c.row_from-then-place-lt-EXTENDED_MAX_FUNCTION.ensures) }

pub returns-then-place-lt-PROCESSOR_TOPOLOGY_DEFINITION : goal.returns-then-place-lt-PROCESSOR_TOPOLOGY_DEFINITION
unfolding row_of_place kept_leaves tabulate
returns-then-place-lt-PROCESSOR_TOPOLOGY_DEFINITION c = record { value = c.row_from-then-place-lt-PROCESSOR_TOPOLOGY_DEFINITION.ensures ∙ on_run (λ i. min (8 + (i - 70)) 20) row_of_place c.if-place-lt-EXTENDED_MAX_FUNCTION.false c.if-place-lt-PROCESSOR_TOPOLOGY_DEFINITION.true refl; small = omega (arith, c.row_from-then-place-lt-PROCESSOR_TOPOLOGY_DEFINITION.ensures) }

pub returns : goal.returns
unfolding row_of_place kept_leaves tabulate
returns c = record { value = c.row_from-2.ensures ∙ on_run (λ i. min (21 + (i - 86)) 22) row_of_place c.if-place-lt-PROCESSOR_TOPOLOGY_DEFINITION.false c.requires refl; small = omega (arith, c.row_from-2.ensures) }
