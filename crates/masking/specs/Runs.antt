-- When a run of the code is right: each of its places has the leaf, the subleaf and the row of masks that the table of kept leaves gives it.
use Rattle.std.specs.Prelude.{Bool, false, not, ◌&&◌, ℕ, ◌+◌, ◌-◌, ◌^◌, min, eqb, leb, ltb}
use Rattle.bits.specs.Choice.{pick}
use Rattle.bits.specs.Search.{every}
use Rattle.x86defs.specs.declared.CpuidFunction.{CpuidFunction}
use Rattle.x86defs.specs.Functions.{function}
use Rattle.masking.specs.declared.run.Run.{Run}
use Rattle.masking.specs.Kept.{Slot, places, slot}
use Rattle.masking.specs.MaskTable.{row_of_place}

-- the leaf of a run's k-th place
abbrev pub run_leaf : Run → ℕ → CpuidFunction
run_leaf g k = pick g.indexed g.leaf (function (g.leaf.0 + k))

-- whether a slot has the leaf and the subleaf that a run gives its k-th place
abbrev pub stands : Run → ℕ → Slot → Bool
stands g k s =
    eqb s.leaf.0 (run_leaf g k).0 && pick g.indexed (s.indexed && eqb s.subleaf k) (not s.indexed && eqb s.subleaf 0)

-- whether every place of a run has the leaf and the subleaf that the run gives it
unfoldable pub lawful_run : Run → Bool
lawful_run g =
    leb (g.first + g.count) places
    && (ltb (g.leaf.0 + places) (2 ^ 32) && every (λ k. stands g k (slot false (g.first + k))) g.count)

-- ---- rows of masks

-- whether a run names the right rows of masks: its first place has row `row`, its last place row `last_row`, and its k-th place row `row` + k or,
-- if that is less, `last_row`
unfoldable pub rows_tied : Run → Bool
rows_tied g =
    eqb g.row (row_of_place g.first)
    && (eqb g.last_row (row_of_place (g.first + g.count - 1))
    && every (λ k. eqb (min (g.row + k) g.last_row) (row_of_place (g.first + k))) g.count)
