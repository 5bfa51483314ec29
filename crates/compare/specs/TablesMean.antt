-- What each answer of a comparison says of the two tables.
use Rattle.std.specs.Prelude.{◌≡◌}
use Rattle.bits.specs.Bits.{Within}
use Rattle.table.specs.declared.CpuidResults.{CpuidResults}
use Rattle.table.specs.Table.{row_in}
use Rattle.finish.specs.Kinds.{TableAtLeast}
use Rattle.rise.specs.Rise.{Further, TableRises}
use Rattle.compare.specs.declared.search.RowsCompared.{RowsCompared}
use Rattle.compare.specs.declared.search.RowsCompared.TheVariants.{Rises}
use Rattle.compare.specs.RowsMean.{Sides, RowsMean}

-- what `TableRises` says of the rows: B may have the extended states of its further mask bits
abbrev pub tables : CpuidResults → CpuidResults → Sides
tables a b = record {
  A = row_in a;
  B = row_in b;
  AtLeast = TableAtLeast;
  MayStand = Further a b;
  MasksRise = Within a.max_extended_state b.max_extended_state;
}

abbrev pub TablesAnswerMeans : CpuidResults → CpuidResults → RowsCompared → Type 0
TablesAnswerMeans a b = RowsMean (tables a b)

-- The answer means what it says, and no other answer does: it is c if and only if TablesAnswerMeans .. c holds. So it is `Rises` if and only if
-- `TableRises` holds.
pub record DecidesTables (a b : CpuidResults) (r : RowsCompared) : Type 0 where
  pub means : TablesAnswerMeans a b r
  pub exact : (c : RowsCompared) → TablesAnswerMeans a b c → r ≡ c
  pub yes : r ≡ Rises → TableRises a b
  pub complete : TableRises a b → r ≡ Rises
