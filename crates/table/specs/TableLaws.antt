-- Tables with the same rows, and the rows of a table.
use Rattle.std.specs.Prelude.{◌≡◌, false, ℕ, ◌<◌}
use Rattle.std.proofs.Common.{ap}
use Rattle.bits.specs.Lists.{one}
use Rattle.bits.specs.ListsLaws.{get_d_tabulate, tabulate_ext, sum_ext}
use Rattle.x86defs.specs.Functions.{cpuid_result}
use Rattle.masking.specs.Kept.{places}
use Rattle.table.specs.Rows.{Row, Rows}
use Rattle.table.specs.Table.{count_rows, table_of, row_in}

pub table_ext : {a b : Rows} {x y : ℕ} → ((i : ℕ) → i < places → a i ≡ b i) → x ≡ y → table_of a x ≡ table_of b y
unfolding count_rows
table_ext {a} {b} e q = λ k. record {
  present = tabulate_ext places (λ i. (a i).present) (λ i. (b i).present) (λ i l. ap (λ (r : Row). r.present) (e i l)) k;
  results = tabulate_ext places (λ i. (a i).result) (λ i. (b i).result) (λ i l. ap (λ (r : Row). r.result) (e i l)) k;
  row_count = sum_ext (λ i. one (a i).present) (λ i. one (b i).present) places (λ i l. ap (λ (r : Row). one r.present) (e i l)) k;
  max_extended_state = q k;
}

-- a row of a table made of rows
pub table_row : (m : Rows) (x i : ℕ) → i < places → row_in (table_of m x) i ≡ m i
table_row m x i l k = record {
  present = get_d_tabulate places (λ j. (m j).present) i false l k;
  result = get_d_tabulate places (λ j. (m j).result) i (cpuid_result 0 0 0 0) l k;
}
