-- The table as the port holds it: document 01, "Port order and changed forms". A refused one has row count 0, all rows zero and mask 0.
use Rattle.std.specs.Prelude.{false, ℕ, get_or, replicate}
use Rattle.bits.specs.Lists.{tabulate, sum_to, one}
use Rattle.x86defs.specs.Functions.{cpuid_result}
use Rattle.masking.specs.Kept.{places}
use Rattle.table.specs.declared.CpuidResults.{CpuidResults}
use Rattle.table.specs.Rows.{Row, Rows}

-- the rows that are there, counted
unfoldable pub count_rows : Rows → ℕ
count_rows m = sum_to (λ i. one (m i).present) places

abbrev pub table_of : Rows → ℕ → CpuidResults
table_of m x = record {
  present = tabulate places (λ i. (m i).present);
  results = tabulate places (λ i. (m i).result);
  row_count = count_rows m;
  max_extended_state = x;
}

abbrev pub empty_table : CpuidResults
empty_table = record {
  present = replicate places false;
  results = replicate places (cpuid_result 0 0 0 0);
  row_count = 0;
  max_extended_state = 0;
}

-- the row of a table at a place; past the last there is none
abbrev pub row_in : CpuidResults → ℕ → Row
row_in t i = record { present = get_or t.present i false; result = get_or t.results i (cpuid_result 0 0 0 0) }

-- all rows of a table
abbrev pub rows_of_table : CpuidResults → Rows
rows_of_table t i = row_in t i
