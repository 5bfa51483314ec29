-- The whole table that lent memory holds. Its count is that of the rows that are there; its combined mask, which the memory does not hold, is what
-- document 01 makes of rows D.0 and D.1, as for an image that is read.
use Rattle.std.specs.Prelude.{Bool, List, ℕ, get_or}
use Rattle.std.specs.Int.Bits.{bit_or}
use Rattle.bits.specs.Lists.{tabulate, sum_to, one}
use Rattle.masking.specs.Kept.{places}
use Rattle.masking.specs.Place
use Rattle.table.specs.declared.CpuidResults.{CpuidResults}
use Rattle.table.specs.Rows.{Rows}
use Rattle.table.specs.Table.{table_of}
use Rattle.checks.specs.ExtendedState.{xss_of, combined_mask}
use Rattle.memory.specs.Memory.{row_of, is_there, rows_in}

-- rows, with the count and the mask that they give
abbrev pub whole_of : Rows → CpuidResults
whole_of m = table_of m (combined_mask m)

abbrev pub held_in : List ℕ → List ℕ → CpuidResults
held_in w o = whole_of (rows_in w o)

-- which places have a row
abbrev pub flags : List ℕ → List Bool
flags o = tabulate places (λ i. is_there (get_or o i 0))

-- the mask as the code reads it
abbrev pub mask_held : List ℕ → ℕ
mask_held w = bit_or (row_of w (Place.extended_state 0)).eax (xss_of (row_of w (Place.extended_state 1)))

-- how many of the first n places have a row
abbrev pub count_to : List ℕ → ℕ → ℕ
count_to o n = sum_to (λ i. one (is_there (get_or o i 0))) n
