-- `snp_cpuid_table_carry` meets its contract: the table carried in place, and the verdict's number.
use borrow.Author.Rules.{rules}
use mathlib.Core.Path.{◌≡◌, refl, sym, ap, ◌∙◌}
use Rattle.table.specs.declared.numbers.AnswerNumbers.{AnswerNumbers}
use Rattle.table.specs.Numbers.{numbers_of}
use Rattle.snp_cpuid.proofs.table_exports.snp_cpuid_table_carry.Goals as goal
use Rattle.table.specs.Verdict.{Verdict}

pub returns : goal.returns
returns c = record { value = ap (λ (x : AnswerNumbers). x.number) (c.from-numbers.ensures ∙ ap numbers_of c.carry-verdict.ensures.verdict); carried_in = record { verdict = refl; registers = c.carry-verdict.ensures.registers; table = λ e. c.carry-verdict.ensures.table (c.carry-verdict.ensures.verdict ∙ e) } }
