-- That a page set's first bit decides, of pages that are read in one pass.
use Rattle.std.specs.Prelude.{◌≡◌, true, ℕ, Ok}
use Rattle.std.proofs.Math.Path.{ap₂}
use Rattle.std.proofs.Common.{◌∙◌}
use Rattle.std.proofs.Math.Bool.{not}
use mathlib.Core.List.{List, ◌∷◌}
use Rattle.bits.specs.ChoiceLaws.{pick_true}
use Rattle.bits.specs.Lists.{tabulate}
use Rattle.pages.specs.Layout.{Entry}
use Rattle.pages.specs.Entries.{entries}
use Rattle.table.specs.declared.Choices.{Choices}
use Rattle.table.specs.declared.CpuidResults.{CpuidResults}
use Rattle.build.specs.Build.{front_verdict, answer}
use Rattle.nearest.specs.declared.flips.Flip.{Flip}
use Rattle.nearest.specs.Flips.{flip, flipped, flips_of, flips_in, flips}
use Rattle.nearest.specs.SameVerdict.{same_answer}
use Rattle.nearest.specs.Changes.{changes}
use Rattle.nearest.specs.Nearest.{first_that, unless_refused, nearest}
use Rattle.page_sets.specs.Pass.{passed_table}
use Rattle.page_sets.specs.PassLaws.{table_passed}
use Rattle.table.specs.Verdict.{Verdict}

module _ (c : Choices) (s : List ℕ) where
  -- both page sets are accepted
  pub changes_passed : (f : Flip) → (answer c (flipped s f)).verdict ≡ Ok tt → (answer c s).verdict ≡ Ok tt
      → changes c s f ≡ not (same_answer (Ok tt) (passed_table c (flipped s f)) (Ok tt) (passed_table c s))
  unfolding changes
  changes_passed f v w =
      ap₂ (λ (x : Verdict) (t : CpuidResults). not (same_answer x t (answer c s).verdict (answer c s).table)) v (table_passed c (flipped s f) v)
      ∙ ap₂ (λ (x : Verdict) (t : CpuidResults). not (same_answer (Ok tt) (passed_table c (flipped s f)) x t)) w (table_passed c s w)

  -- the first bit of the first entry is the first of all flips
  pub nearest_first : (e : Entry) (es : List Entry) → entries s ≡ e ∷ es → front_verdict c s ≡ Ok tt
      → changes c s (flip e.page e.position 0 0) ≡ true → nearest c s ≡ Ok (flip e.page e.position 0 0)
  unfolding nearest flips flips_in flips_of first_that tabulate
  nearest_first e es p v h =
      ap₂ (λ (x : Verdict) (l : List Entry). unless_refused x (first_that (changes c s) (flips_in l))) v p ∙ pick_true _ _ h
