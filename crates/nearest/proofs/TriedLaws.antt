-- The answer to rows in which a flip is tried, one case for each return of the function that judges them.
use Rattle.std.specs.Prelude.{◌≡◌, Bool, true, false, ℕ, Ok, Err, Result}
use Rattle.std.proofs.Common.{sym, ap₂, ◌∙◌}
use Rattle.std.proofs.Math.Path.{ap}
use Rattle.x86defs.specs.declared.CpuidResult.{CpuidResult}
use Rattle.table.specs.declared.Refusal.{Refusal}
use Rattle.table.specs.Rows.{Rows, row}
use Rattle.checks.specs.Checks.{required_verdict, rows_verdict}
use Rattle.finish.specs.Finish.{finished}
use Rattle.finish.specs.Stages.{from_invlpgb}
use Rattle.rows.specs.Checked.{checked_by, checked_rows, verdict_of}
use Rattle.rows.specs.CheckedLaws.{verdict_of_lem}
use Rattle.rows.specs.AnsweredLaws.{checked_accepts, checked_refuses}
use Rattle.nearest.specs.SameVerdict.{same_result, same_verdict, same_from}
use Rattle.nearest.specs.SameLaws.{result_equal}
use Rattle.nearest.specs.WithRowLaws.{put_same, put_here, required_same}
use Rattle.nearest.proofs.ChangesLaws.{from_equal}
use Rattle.nearest.specs.Tried.{TriedAt}
use Rattle.nearest.proofs.FinishedRowLaws.{row_decides}
use Rattle.nearest.specs.TriedLaws.{accepted_differs, refused_decides}
use Rattle.rows.specs.declared.checked.Checked.{Checked}
use Rattle.table.specs.Verdict.{Verdict}

module _ (n : ℕ) {m o : Rows} {i : ℕ} (t : TriedAt m o i) where
  -- the row that was there
  pub judged_there : {a b : CpuidResult} {q : Bool} → a ≡ (m i).result → b ≡ (o i).result → q ≡ same_result a b → q ≡ true → true ≡ same_from n o m
  judged_there {a} {b} e f g h =
      let own : b ≡ t.tried = f ∙ ap (λ (q : Rows). (q i).result) t.changed ∙ put_here i t.tried m in
      let here : m i ≡ row t.tried =
      (λ k. record { present = t.present k; result = (m i).result }) ∙ ap row (sym e ∙ result_equal a b (sym g ∙ h) ∙ own) in
      sym (from_equal n (t.changed ∙ put_same i t.tried m here))

  -- the checks after the required leaves are all checks, since no leaf goes missing
  all_checks : checked_by (from_invlpgb o) o ≡ checked_rows o
  unfolding checked_rows rows_verdict
  all_checks = rw (ap required_verdict t.changed ∙ required_same i t.tried m t.present ∙ t.required)

  -- k is what the checks find in o, b what they found in m
  module _ {k b : Result Checked Refusal} (e : k ≡ checked_by (from_invlpgb o) o) (f : b ≡ checked_rows m) where
    pub judged_ready : {x : Checked} → k ≡ Ok x → Ok x ≡ checked_rows o
    judged_ready g = sym g ∙ e ∙ all_checks

    pub judged_refused : {r : Refusal} {v : Verdict} {q : Bool} → k ≡ Err r → v ≡ verdict_of b → q ≡ same_verdict (Err r) v → q ≡ same_from n o m
    unfolding checked_rows
    judged_refused {r} g h j =
        j ∙ ap (same_verdict (Err r)) (h ∙ ap verdict_of f ∙ verdict_of_lem (rows_verdict m) m)
        ∙ refused_decides n o m r (checked_refuses o (sym g ∙ e ∙ all_checks))

    pub judged_accepted : {x : Checked} {r : Refusal} → k ≡ Ok x → b ≡ Err r → false ≡ same_from n o m
    judged_accepted g h = accepted_differs n o m _ (checked_accepts o (judged_ready g)) (checked_refuses m (sym h ∙ f))

    pub judged_finished : {x y : Checked} {a c : CpuidResult} {q : Bool} → k ≡ Ok x → b ≡ Ok y
        → a ≡ (finished n o i).result → c ≡ (finished n m i).result → q ≡ same_result a c → q ≡ same_from n o m
    judged_finished g h j l u =
        u ∙ ap₂ same_result (j ∙ ap (λ (q : Rows). (finished n q i).result) t.changed) l
        ∙ row_decides n i t.tried m t.small t.present (sym (ap rows_verdict t.changed) ∙ checked_accepts o (judged_ready g))
        (checked_accepts m (sym h ∙ f))
        ∙ sym (ap (λ (q : Rows). same_from n q m) t.changed)
