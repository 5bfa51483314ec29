-- What a flip changes, at the 88 rows: nothing where they stay, and else what building from the changed rows changes.
use Rattle.std.specs.Prelude.{◌≡◌, refl, Bool, true, false, List, ℕ, Ok}
use Rattle.std.proofs.Math.Bool.{not}
use Rattle.pages.specs.Layout.{bad_length}
use Rattle.table.specs.declared.Choices.{Choices}
use Rattle.table.specs.declared.Refusal.TheVariants.{PagesLength}
use Rattle.table.specs.Edition.{known_edition}
use Rattle.checks.specs.Checks.{rows_verdict}
use Rattle.checks.specs.ChecksLaws.{then_left, demanded}
use Rattle.finish.specs.RowsBuilt.{table_for}
use Rattle.build.specs.Build.{edition_verdict, rows_for, verdict_of, answer}
use Rattle.collect.specs.Lawful.{length_verdict, lawful_verdict}

-- ---- the answer of lawful pages

not_false : (b : Bool) → not b ≡ true → b ≡ false
not_false true e = cc
not_false false e = refl

pub lawful_length : (s : List ℕ) → lawful_verdict s ≡ Ok tt → bad_length s ≡ false
unfolding lawful_verdict length_verdict
lawful_length s e = not_false (bad_length s) (demanded (not (bad_length s)) PagesLength (then_left (length_verdict s) _ e))

module _ (c : Choices) (s : List ℕ) (k : known_edition c.edition ≡ true) (l : lawful_verdict s ≡ Ok tt) where
  pub lawful_verdict_lem : (answer c s).verdict ≡ rows_verdict (rows_for c s)
  unfolding answer verdict_of edition_verdict
  lawful_verdict_lem = rw (k, l)

  pub lawful_table : (answer c s).table ≡ table_for c.edition (rows_verdict (rows_for c s)) (rows_for c s)
  unfolding answer verdict_of edition_verdict
  lawful_table = rw (k, l)
