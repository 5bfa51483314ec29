-- The first flip that passes a test: found exactly where it stands behind none that does, and none is found exactly where none passes.
use Rattle.std.proofs.Math.Path.{◌≡◌, refl, ap}
use Rattle.std.proofs.Common.{◌∙◌, arith}
use Rattle.std.specs.Prelude.{Bool, ℕ, Err, Ok}
use Rattle.std.proofs.Math.Bool.{true, false}
use mathlib.Core.List.{List, [], ◌∷◌, ◌++◌}
use Rattle.bits.specs.Choice.{pick}
use Rattle.bits.specs.ChoiceLaws.{pick_true, pick_false}
use Rattle.bits.specs.Lists.{keep_if}
use Rattle.table.specs.declared.Refusal.TheVariants.{NothingDecides}
use Rattle.nearest.specs.declared.flips.Flip.{Flip}
use Rattle.nearest.specs.Nearest.{first_that}
use Rattle.nearest_exactly.specs.NearestExactly.{FirstOf}

module _ (test : Flip → Bool) where
  -- what a search comes to
  pub data Searched (fs : List Flip) : Type 0 where
    found : (f : Flip) → first_that test fs ≡ Ok f → FirstOf test fs f → Searched fs
    none : first_that test fs ≡ Err NothingDecides → keep_if test fs ≡ [] → Searched fs

  pub searched : (fs : List Flip) → Searched fs
  searched [] = none (unfold first_that in refl) (unfold keep_if in refl)
  searched (f ∷ fs) = go (searched fs) (test f) refl
    where
      go : Searched fs → (b : Bool) → test f ≡ b → Searched (f ∷ fs)
      go w true e =
          found f (unfold first_that in pick_true _ _ e) (record { before = []; after = fs; order = refl; none = unfold keep_if in refl; passes = e })
      go (found g h first) false e =
          found g (unfold first_that in pick_false _ _ e ∙ h) (record {
            before = f ∷ first.before;
            after = first.after;
            order = ap (λ (gs : List Flip). f ∷ gs) first.order;
            none = unfold keep_if in pick_false _ _ e ∙ first.none;
            passes = first.passes;
          })
      go (none h k) false e = none (unfold first_that in pick_false _ _ e ∙ h) (unfold keep_if in pick_false _ _ e ∙ k)

  pub none_found : (fs : List Flip) → keep_if test fs ≡ [] → first_that test fs ≡ Err NothingDecides
  unfolding first_that keep_if
  none_found [] e = refl
  none_found (f ∷ fs) e = go (none_found fs) (test f) e
    where
      go : (keep_if test fs ≡ [] → first_that test fs ≡ Err NothingDecides) → (b : Bool) → pick b (f ∷ keep_if test fs) (keep_if test fs) ≡ []
          → pick b (Ok f) (first_that test fs) ≡ Err NothingDecides
      go ih true g = let z : ◌≡◌ {A = ℕ} 0 1 = cc in absurd (omega arith)
      go ih false g = ih g

  behind : (before after : List Flip) (f : Flip) → keep_if test before ≡ [] → test f ≡ true → first_that test (before ++ f ∷ after) ≡ Ok f
  unfolding first_that keep_if
  behind [] after f n e = pick_true _ _ e
  behind (g ∷ gs) after f n e = go (behind gs after f) (test g) n
    where
      go : (keep_if test gs ≡ [] → test f ≡ true → first_that test (gs ++ f ∷ after) ≡ Ok f) → (b : Bool)
          → pick b (g ∷ keep_if test gs) (keep_if test gs) ≡ [] → pick b (Ok g) (first_that test (gs ++ f ∷ after)) ≡ Ok f
      go ih true h = let z : ◌≡◌ {A = ℕ} 0 1 = cc in absurd (omega arith)
      go ih false h = ih h e

  pub first_found : (fs : List Flip) (f : Flip) → FirstOf test fs f → first_that test fs ≡ Ok f
  first_found fs f w = ap (first_that test) w.order ∙ behind w.before w.after f w.none w.passes
