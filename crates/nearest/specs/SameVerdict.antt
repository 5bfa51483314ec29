-- Document 02, P13: "changes the table, the refusal or its details; origins don't count". Two answers are the same where the number, leaf, subleaf
-- and s of the verdict agree, and each of the 88 rows, the row count and the combined mask.
use Rattle.std.specs.Prelude.{Bool, true, false, not, ◌&&◌, ℕ, eqb}
use Rattle.bits.specs.Search.{every}
use Rattle.x86defs.specs.declared.CpuidResult.{CpuidResult}
use Rattle.masking.specs.Kept.{places}
use Rattle.table.specs.declared.CpuidResults.{CpuidResults}
use Rattle.table.specs.Rows.{Row, Rows}
use Rattle.table.specs.Table.{row_in}
use Rattle.checks.specs.Checks.{rows_verdict}
use Rattle.finish.specs.RowsBuilt.{table_for}
use Rattle.table.specs.declared.numbers.AnswerNumbers.{AnswerNumbers}
use Rattle.table.specs.Numbers.{numbers_of}
use Rattle.table.specs.Verdict.{Verdict}

abbrev pub agree : Bool → Bool → Bool
agree true b = b
agree false b = not b

-- ---- the same table

unfoldable pub same_result : CpuidResult → CpuidResult → Bool
same_result a b = eqb a.eax b.eax && (eqb a.ebx b.ebx && (eqb a.ecx b.ecx && eqb a.edx b.edx))

abbrev pub is_same_row : Row → Row → Bool
is_same_row a b = agree a.present b.present && same_result a.result b.result

unfoldable pub same_rows : CpuidResults → CpuidResults → Bool
same_rows t u = every (λ i. is_same_row (row_in t i) (row_in u i)) places

unfoldable pub same_table : CpuidResults → CpuidResults → Bool
same_table t u = eqb t.row_count u.row_count && (eqb t.max_extended_state u.max_extended_state && same_rows t u)

-- ---- the same refusal and details, or none

unfoldable pub same_numbers : AnswerNumbers → AnswerNumbers → Bool
same_numbers a b =
    eqb a.number b.number
    && (eqb a.leaf b.leaf && (eqb a.has_subleaf b.has_subleaf && (eqb a.subleaf b.subleaf && eqb a.s b.s)))

abbrev pub same_verdict : Verdict → Verdict → Bool
same_verdict v w = same_numbers (numbers_of v) (numbers_of w)

-- ---- the same answer

unfoldable pub same_answer : Verdict → CpuidResults → Verdict → CpuidResults → Bool
same_answer v t w u = same_verdict v w && same_table t u

-- the answers to two sets of masked first entries under edition n
abbrev pub same_from : ℕ → Rows → Rows → Bool
same_from n m o = same_answer (rows_verdict m) (table_for n (rows_verdict m) m) (rows_verdict o) (table_for n (rows_verdict o) o)
