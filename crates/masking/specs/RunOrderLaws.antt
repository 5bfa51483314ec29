-- The runs of the code follow one another from the first place to the last: what a walk over them knows at each.
use Rattle.std.specs.Prelude.{◌≡◌, refl, Bool, true, false, List, [], ◌∷◌, ◌&&◌, ℕ, ◌+◌, ◌≤◌, ◌<◌, eqb, length, get_or, drop}
use Rattle.std.proofs.Common.{sym, ap, subst, ◌∙◌, add-one, drop-cons, eqb-true}
use Rattle.std.proofs.lemmas.List.{drop_all}
use Rattle.bits.specs.ChoiceLaws.{and_left, and_right}
use Rattle.x86defs.specs.Functions.{function}
use Rattle.masking.specs.Kept.{places, slot, kept_leaves}
use Rattle.masking.specs.declared.run.Run.{Run}
use Rattle.masking.specs.declared.run.TheConstants.{RUNS}
use Rattle.masking.specs.Runs.{lawful_run}

-- whether runs are lawful and follow one another from place i to the last
unfoldable pub in_order : ℕ → List Run → Bool
in_order i [] = eqb i places
in_order i (g ∷ gs) = lawful_run g && (eqb g.first i && in_order (i + g.count) gs)

pub runs_in_order : in_order 0 RUNS ≡ true
unfolding in_order lawful_run slot kept_leaves
runs_in_order = refl

-- what that says of the first of some runs
pub record Next (i : ℕ) (g : Run) (gs : List Run) : Type 0 where
  pub lawful : lawful_run g ≡ true
  pub begins : g.first ≡ i
  pub further : in_order (i + g.count) gs ≡ true

pub order_next : (gs : List Run) (n i : ℕ) (d : Run) → in_order i (drop n gs) ≡ true → n < length gs → Next i (get_or gs n d) (drop (n + 1) gs)
unfolding in_order
order_next gs n i d e h =
    let g : Run = get_or gs n d in
    let q : drop n gs ≡ g ∷ drop (n + 1) gs = drop-cons gs n d h ∙ ap (λ (m : ℕ). g ∷ drop m gs) (sym (add-one n)) in
    let f : in_order i (g ∷ drop (n + 1) gs) ≡ true = subst (λ (l : List Run). in_order i l ≡ true) q e in
    let rest = and_right (lawful_run g) _ f in
    record { lawful = and_left (lawful_run g) _ f; begins = eqb-true g.first i (and_left (eqb g.first i) _ rest); further = and_right (eqb g.first i) _ rest }

pub order_ends : (gs : List Run) (n i : ℕ) → in_order i (drop n gs) ≡ true → length gs ≤ n → i ≡ places
unfolding in_order
order_ends gs n i e h =
    let none : drop n gs ≡ [] = drop_all n gs h in
    let f : in_order i [] ≡ true = subst (λ (l : List Run). in_order i l ≡ true) none e in
    eqb-true i places f

-- what the code's lists of runs have past their end
abbrev pub no_run : Run
no_run = record { first = 0; count = 0; leaf = function 0; indexed = false; row = 0; last_row = 0 }
