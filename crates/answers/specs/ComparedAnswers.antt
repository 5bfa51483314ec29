-- What a comparison answers, as the exported function gives it.
use Rattle.std.specs.Prelude.{ℕ, Ok}
use Rattle.compare.specs.declared.Compared.{Compared}
use Rattle.compare.specs.declared.Compared.TheVariants.{Rises, RefusedA, UnlawfulB, NoEntry, Differs}
use Rattle.compare.specs.Registers.{order}
use Rattle.compare.specs.declared.search.RowsCompared.{RowsCompared}
use Rattle.compare.specs.declared.search.RowsCompared.TheVariants.{Rises as TablesRise, NoRow, Differs as RowDiffers, Beyond, MaskLacks}
use Rattle.table.specs.declared.numbers.AnswerNumbers.{AnswerNumbers}
use Rattle.table.specs.Numbers.{numbers_of, refusal_numbers, leaf_numbers}
use Rattle.answers.specs.declared.comparison.SnpCpuidCompared.{SnpCpuidCompared}
use Rattle.answers.specs.declared.comparison.SnpCpuidTablesCompared.{SnpCpuidTablesCompared}

abbrev pub compared_with : ℕ → AnswerNumbers → ℕ → SnpCpuidCompared
compared_with answer n register = record {
  answer = answer;
  number = n.number;
  leaf = n.leaf;
  has_subleaf = n.has_subleaf;
  subleaf = n.subleaf;
  s = n.s;
  register_index = register;
}

-- which answer it is; the refusal's number and details, or the leaf and subleaf in question; EAX to EDX as 0 to 3
abbrev pub compared_numbers : Compared → SnpCpuidCompared
compared_numbers Rises = compared_with 0 (numbers_of (Ok tt)) 0
compared_numbers (RefusedA r) = compared_with 1 (refusal_numbers r) 0
compared_numbers (UnlawfulB r) = compared_with 2 (refusal_numbers r) 0
compared_numbers (NoEntry leaf subleaf) = compared_with 3 (leaf_numbers 0 leaf.0 subleaf) 0
compared_numbers (Differs leaf subleaf register) = compared_with 4 (leaf_numbers 0 leaf.0 subleaf) (order register)

-- ---- two tables

abbrev pub tables_compared_with : ℕ → AnswerNumbers → ℕ → SnpCpuidTablesCompared
tables_compared_with answer n register = record {
  answer = answer;
  leaf = n.leaf;
  has_subleaf = n.has_subleaf;
  subleaf = n.subleaf;
  register_index = register;
}

-- which answer it is; the leaf and subleaf in question; EAX to EDX as 0 to 3
abbrev pub tables_compared_numbers : RowsCompared → SnpCpuidTablesCompared
tables_compared_numbers TablesRise = tables_compared_with 0 (numbers_of (Ok tt)) 0
tables_compared_numbers (NoRow leaf subleaf) = tables_compared_with 1 (leaf_numbers 0 leaf.0 subleaf) 0
tables_compared_numbers (RowDiffers leaf subleaf register) = tables_compared_with 2 (leaf_numbers 0 leaf.0 subleaf) (order register)
tables_compared_numbers (Beyond leaf subleaf) = tables_compared_with 3 (leaf_numbers 0 leaf.0 subleaf) 0
tables_compared_numbers MaskLacks = tables_compared_with 4 (numbers_of (Ok tt)) 0
