-- What a pool of servers gives, as the exported functions give it.
use Rattle.std.specs.Prelude.{ℕ}
use Rattle.table.specs.declared.numbers.AnswerNumbers.{AnswerNumbers}
use Rattle.table.specs.Numbers.{numbers_of}
use Rattle.pool.specs.declared.Pooled.{Pooled}
use Rattle.answers.specs.declared.pool_answer.SnpCpuidPooled.{SnpCpuidPooled}
use Rattle.table.specs.Verdict.{Verdict}

abbrev pub pooled_with : AnswerNumbers → ℕ → ℕ → ℕ → SnpCpuidPooled
pooled_with n server rows mask = record {
  number = n.number;
  leaf = n.leaf;
  has_subleaf = n.has_subleaf;
  subleaf = n.subleaf;
  s = n.s;
  server = server;
  row_count = rows;
  max_extended_state = mask;
}

abbrev pub pooled_given : Verdict → ℕ → ℕ → ℕ → SnpCpuidPooled
pooled_given v server rows mask = pooled_with (numbers_of v) server rows mask

abbrev pub pooled_numbers : Pooled → SnpCpuidPooled
pooled_numbers p = pooled_given p.verdict p.server p.table.row_count p.table.max_extended_state
