-- The answer, one case for each return of the function: 15, 1, 2 or 17, or what is found.
use Rattle.std.specs.Prelude.{◌≡◌, List, ℕ, Err, Ok, Result}
use Rattle.std.proofs.Common.{sym, ap, ◌∙◌}
use Rattle.table.specs.declared.Choices.{Choices}
use Rattle.table.specs.declared.Refusal.{Refusal}
use Rattle.build.specs.Build.{front_verdict}
use Rattle.nearest.specs.declared.flips.Flip.{Flip}
use Rattle.nearest.specs.Flips.{flips}
use Rattle.nearest.specs.Changes.{changes}
use Rattle.nearest.specs.Nearest.{first_that, unless_refused, nearest}
use Rattle.table.specs.Verdict.{Verdict}

module _ (c : Choices) (s : List ℕ) where
  pub front_refuses : {r : Refusal} → front_verdict c s ≡ Err r → nearest c s ≡ Err r
  unfolding nearest
  front_refuses e = ap (λ (v : Verdict). unless_refused v (first_that (changes c s) (flips s))) e

  -- the same of the verdict that the code has
  pub front_told : {v : Verdict} {r : Refusal} → v ≡ front_verdict c s → v ≡ Err r → ◌≡◌ {A = Result Flip Refusal} (Err r) (nearest c s)
  front_told k e = sym (front_refuses (sym k ∙ e))

  pub searched : front_verdict c s ≡ Ok tt → nearest c s ≡ first_that (changes c s) (flips s)
  unfolding nearest
  searched e = ap (λ (v : Verdict). unless_refused v (first_that (changes c s) (flips s))) e
