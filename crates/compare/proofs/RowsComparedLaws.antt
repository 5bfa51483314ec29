-- The search for the first place that fails, as the loop runs: a turn passes a place or stops there; after the last place the masks decide. Of
-- rows that are the same at every place it is the same.
use Rattle.std.specs.Prelude.{◌≡◌, List, ℕ}
use Rattle.std.proofs.Math.Path.{sym}
use Rattle.std.proofs.Common.{◌∙◌}
use Rattle.memory.specs.Memory.{rows_in}
use Rattle.compare.specs.declared.search.RowsCompared.{RowsCompared}
use Rattle.compare.specs.RowsCompared.{rows_compared, wanted_by, compared_tables}
use Rattle.memory.specs.Held.{whole_row_lem, held_in, mask_held, mask_held_lem}
use Rattle.compare.specs.declared.search.Asked.TheVariants.{Tables}
use Rattle.compare.specs.RowsComparedLaws.{rows_same}

-- two tables in lent memory, by what the code has at hand: their rows and their combined masks
pub held_compared : (v o w q : List ℕ) {x y : ℕ} → x ≡ mask_held v → y ≡ mask_held w
    → {r : RowsCompared} → r ≡ rows_compared (wanted_by (Tables x y)) (rows_in v o) (rows_in w q) → r ≡ compared_tables (held_in v o) (held_in w q)
unfolding compared_tables
held_compared v o w q e f h =
    h
    ∙ (λ t. rows_compared (wanted_by (Tables ((e ∙ sym (mask_held_lem v o)) t) ((f ∙ sym (mask_held_lem w q)) t))) (rows_in v o) (rows_in w q))
    ∙ rows_same _ _ _ _ _ (λ i l. sym (whole_row_lem (rows_in v o) i l)) (λ i l. sym (whole_row_lem (rows_in w q) i l))
