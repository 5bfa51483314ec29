-- The comparison of two servers, one case for each return of the function. The rows of A's table that are asked for are its origins without those of
-- the two rows that come from no entry.
use Rattle.std.specs.Prelude.{◌≡◌, refl, List, ℕ, Err, Ok}
use Rattle.std.proofs.Math.Path.{sym, ap}
use Rattle.std.proofs.Common.{◌∙◌}
use Rattle.memory.specs.Memory.{rows_in}
use Rattle.memory.specs.Held.{held_in}
use Rattle.compare.specs.Compare.{entries_named, after_a, after_b, compared_rows, compared}
use Rattle.table.specs.declared.Choices.{Choices}
use Rattle.table.specs.declared.Refusal.{Refusal}
use Rattle.build.specs.Build.{edition_verdict, front_verdict, rows_for, verdict_of, answer}
use Rattle.checks.specs.ChecksLaws.{then_left, then_skips}
use Rattle.collect.specs.Lawful.{lawful_verdict}
use Rattle.compare.specs.declared.search.Asked.TheVariants.{Entries}
use Rattle.compare.specs.declared.search.RowsCompared.{RowsCompared}
use Rattle.compare.specs.RowsCompared.{wanted_by, rows_compared}
use Rattle.compare.specs.RowsComparedLaws.{rows_same}
use Rattle.compare.specs.declared.Compared.{Compared}
use Rattle.compare.specs.declared.Compared.TheVariants.{RefusedA, UnlawfulB}
use Rattle.compare.specs.CompareLaws.{asked, asked_rows_lem, has_row}
use Rattle.table.specs.Verdict.{Verdict}

-- ---- the returns

module _ (chosen : Choices) (a b : List ℕ) where
  -- with a verdict on A, and one on B's pages
  pub with_verdicts : {v w : Verdict} → (answer chosen a).verdict ≡ v → lawful_verdict b ≡ w
      → compared chosen a b ≡ after_a v (after_b w (compared_rows (has_row (answer chosen a).table) (rows_for chosen a) (rows_for chosen b)))
  unfolding compared
  with_verdicts e f = rw (e, f)

  pub refused_a : {r : Refusal} → (answer chosen a).verdict ≡ Err r → RefusedA r ≡ compared chosen a b
  refused_a e = sym (with_verdicts e refl)

  module _ (accepted : (answer chosen a).verdict ≡ Ok tt) where
    -- the edition is known, so the way in refuses B's pages only for themselves
    pub lawful_b : {v : Verdict} → v ≡ front_verdict chosen b → lawful_verdict b ≡ v
    unfolding answer verdict_of
    lawful_b e = sym (e ∙ then_skips (then_left (edition_verdict chosen.edition) _ accepted))

    pub unlawful_b : {r : Refusal} → lawful_verdict b ≡ Err r → UnlawfulB r ≡ compared chosen a b
    unlawful_b e = sym (with_verdicts accepted e)

    -- the table of A is in memory w, o; v and u are the rows of A's entries and of B's
    pub rows_compared_lem : lawful_verdict b ≡ Ok tt → (w o v q u p : List ℕ)
        → held_in w o ≡ (answer chosen a).table → rows_in v q ≡ rows_for chosen a → rows_in u p ≡ rows_for chosen b
        → {f : RowsCompared} → f ≡ rows_compared (wanted_by Entries) (rows_in v (asked o)) (rows_in u p)
        → {r : Compared} → r ≡ entries_named f → r ≡ compared chosen a b
    unfolding compared_rows
    rows_compared_lem e w o v q u p t f g c n =
        n
        ∙ ap entries_named (c ∙ rows_same _ _ _ _ _ (asked_rows_lem w o v q) (λ i l. refl))
        ∙ (λ k. compared_rows (has_row (t k)) (f k) (g k))
        ∙ sym (with_verdicts accepted e)
