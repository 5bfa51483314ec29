-- The answer to rows in which a flip is tried, one case for each return of the function that judges them.
use Rattle.std.specs.Prelude.{◌≡◌, refl, Bool, true, false, ◌&&◌, ℕ, Err, Ok}
use Rattle.std.proofs.Common.{sym, ◌∙◌, eqb-true}
use Rattle.bits.specs.ChoiceLaws.{and_left, and_implied}
use Rattle.table.specs.declared.Refusal.{Refusal}
use Rattle.table.proofs.RefusalLaws.{refusal_numbered}
use Rattle.table.specs.Table.{empty_table}
use Rattle.table.specs.Rows.{Rows}
use Rattle.checks.specs.Checks.{rows_verdict}
use Rattle.finish.specs.RowsBuilt.{table_for}
use Rattle.nearest.specs.SameVerdict.{same_table, same_numbers, same_verdict, same_answer, same_from}
use Rattle.nearest.specs.SameLaws.{table_same}
use Rattle.table.specs.Verdict.{Verdict}

-- rows that are refused: the verdict decides, since a refusal has an empty table
pub refused_decides : (n : ℕ) (o m : Rows) (r : Refusal) → rows_verdict o ≡ Err r → same_verdict (Err r) (rows_verdict m) ≡ same_from n o m
unfolding same_answer same_numbers
refused_decides n o m r e =
    sym (and_implied (same_verdict (Err r) (rows_verdict m)) (same_table empty_table (table_for n (rows_verdict m) m)) (same (rows_verdict m)))
    ∙ sym (λ k. same_answer (e k) (table_for n (e k) o) (rows_verdict m) (table_for n (rows_verdict m) m))
  where
    same : (w : Verdict) → same_verdict (Err r) w ≡ true → same_table empty_table (table_for n w m) ≡ true
    same (Ok _) f = absurd (refusal_numbered r (eqb-true _ _ (and_left _ _ f)))
    same (Err q) f = table_same empty_table

-- rows that are accepted where those before were refused
pub accepted_differs : (n : ℕ) (o m : Rows) (r : Refusal) → rows_verdict o ≡ Ok tt → rows_verdict m ≡ Err r → false ≡ same_from n o m
unfolding same_answer same_numbers
accepted_differs n o m r e f =
    go (same_verdict (Ok tt) (Err r)) refl ∙ sym (λ k. same_answer (e k) (table_for n (e k) o) (f k) (table_for n (f k) m))
  where
    go : (b : Bool) → same_verdict (Ok tt) (Err r) ≡ b → false ≡ (b && same_table (table_for n (Ok tt) o) empty_table)
    go true g = absurd (refusal_numbered r (sym (eqb-true _ _ (and_left _ _ g))))
    go false g = refl
