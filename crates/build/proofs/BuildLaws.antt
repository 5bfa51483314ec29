-- The answer, by its verdict and by its parts.
use Rattle.std.specs.Prelude.{◌≡◌, refl, true, List, ℕ, Err, Ok}
use Rattle.std.proofs.Common.{sym, ◌∙◌}
use Rattle.std.proofs.Math.Path.{ap}
use Rattle.finish.specs.declared.RowsBuilt.{RowsBuilt}
use Rattle.build.specs.declared.Built.{Built}
use Rattle.table.specs.declared.Refusal.{Refusal}
use Rattle.table.specs.declared.Refusal.TheVariants.{UnknownEdition}
use Rattle.table.specs.declared.Choices.{Choices}
use Rattle.table.specs.Refusal.{and_then}
use Rattle.checks.specs.Checks.{rows_verdict}
use Rattle.checks.specs.ChecksLaws.{demanded, then_left, then_right}
use Rattle.finish.specs.RowsBuilt.{built_from}
use Rattle.build.specs.Built.{without_origins, not_built}
use Rattle.table.specs.Table.{empty_table}
use Rattle.table.specs.Rows.{Rows}
use Rattle.table.specs.Edition.{known_edition}
use Rattle.finish.specs.Stages.{built_by}
use Rattle.build.specs.Build.{edition_verdict, front_verdict, rows_for, verdict_of, origins_in, answer}
use Rattle.collect.specs.Lawful.{lawful_verdict}
use Rattle.build.specs.BuildLaws.{no_origins_lem}
use Rattle.table.specs.Verdict.{Verdict}

module _ (c : Choices) (s : List ℕ) where
  abbrev m : Rows
  m = rows_for c s

  -- an answer to rows, with the origins of its table
  abbrev with_origins : RowsBuilt → Built
  with_origins b = record { verdict = b.verdict; table = b.table; origins = origins_in b.table s }

  built_with : {v : Verdict} → verdict_of c s ≡ v → answer c s ≡ with_origins (built_by c.edition v m)
  unfolding answer
  built_with e = ap (λ (x : Verdict). with_origins (built_by c.edition x m)) e

  refused_with : {r : Refusal} {q : Built} → q ≡ not_built r → verdict_of c s ≡ Err r → q ≡ answer c s
  refused_with {r} e f =
      e ∙ ap (λ (o : List ℕ). record { verdict = Err r; table = empty_table; origins = o }) (no_origins_lem s) ∙ sym (built_with f)

  -- a refused answer has nothing but its refusal
  pub answer_refused : {r : Refusal} → (answer c s).verdict ≡ Err r → not_built r ≡ answer c s
  answer_refused {r} e = refused_with {r = r} {q = not_built r} refl (unfold answer in e)

  -- the answer of lawful edition and pages, origins aside, is that of the rows
  pub answer_of_rows : edition_verdict c.edition ≡ Ok tt → lawful_verdict s ≡ Ok tt → without_origins (answer c s) ≡ built_from c.edition m
  unfolding answer verdict_of built_from
  answer_of_rows e f = rw (e, f)

  -- ---- by what 15, 1, 2 and 17 come to

  pub front_known : front_verdict c s ≡ Ok tt → known_edition c.edition ≡ true
  unfolding edition_verdict
  front_known e = demanded (known_edition c.edition) UnknownEdition (then_left (edition_verdict c.edition) _ e)

  pub front_lawful : front_verdict c s ≡ Ok tt → lawful_verdict s ≡ Ok tt
  front_lawful e = then_right (edition_verdict c.edition) _ e

  pub front_rows : front_verdict c s ≡ Ok tt → without_origins (answer c s) ≡ built_from c.edition m
  front_rows e = answer_of_rows (then_left (edition_verdict c.edition) _ e) (front_lawful e)

  pub front_refused : {r : Refusal} → front_verdict c s ≡ Err r → (answer c s).verdict ≡ Err r
  unfolding answer verdict_of
  front_refused {r} = go (edition_verdict c.edition) (lawful_verdict s)
    where
      go : (u v : Verdict) → and_then u v ≡ Err r → and_then u (and_then v (rows_verdict m)) ≡ Err r
      go (Ok _) (Err q) e = e
      go (Ok _) (Ok _) e = cc
      go (Err q) v e = e
