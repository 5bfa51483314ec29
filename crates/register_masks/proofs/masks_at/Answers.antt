-- `masks_at` meets its contract: a place with masks of its own by computation, any other by computation over the places.
use mathlib.Core.Path.{◌≡◌, refl, sym, ap, ◌∙◌}
use mathlib.Core.Bool.{Bool, false, ◌||◌}
use mathlib.Core.List.{List, [], ◌∷◌}
use Prim.Native.Nat.{ℕ, ◌<◌}
use lib.Dec.{eqb}
use borrow.Author.Rules.{rules}
use borrow.Author.Tests.{ne_eqb}
use Rattle.bits.specs.Choice.{pick}
use Rattle.bits.specs.ChoiceLaws.{pick_false}
use Rattle.bits.specs.Lists.{tabulate}
use Rattle.bits.specs.ListsLaws.{tabulate_at}
use Rattle.masking.specs.Kept.{kept_leaves, slot, places}
use Rattle.finish.specs.Kinds.{Kinds, kinds, register_kinds, kinds_at}
use Rattle.finish.specs.Kinds.Kind.{other}
use Rattle.register_masks.specs.RegisterMasks.{masks_of}
use Rattle.register_masks.proofs.masks_at.Goals as goal

abbrev is_one : List ℕ → ℕ → Bool
is_one [] i = false
is_one (n ∷ ns) i = eqb i n || is_one ns i

-- the places that the code names; this list and all that follows it is written by tests/gate/kinds.py
abbrev named : ℕ → Bool
named = is_one (0 ∷ 1 ∷ 3 ∷ 4 ∷ 5 ∷ 6 ∷ 7 ∷ 70 ∷ 71 ∷ 78 ∷ 81 ∷ 87 ∷ [])

-- any other has no register of demand 3's list
abbrev plain : Kinds
plain = kinds other other other other

others : (i : ℕ) → i < places → pick (named i) plain (kinds_at i) ≡ plain
unfolding tabulate kinds_at register_kinds slot kept_leaves
others i h = tabulate_at places (λ i. pick (named i) plain (kinds_at i)) (λ i. plain) refl i h

pub returns-in_default : goal.returns-in_default
returns-in_default c =
    let none : named c.args.place ≡ false =
    rw (
      ne_eqb _ 0 c.in_default.in_default-own.rest.0.0.0.0.0.0.0.0.0.0.0.1,
      ne_eqb _ 1 c.in_default.in_default-own.rest.0.0.0.0.0.0.0.0.0.0.1,
      ne_eqb _ 3 c.in_default.in_default-own.rest.0.0.0.0.0.0.0.0.0.1,
      ne_eqb _ 4 c.in_default.in_default-own.rest.0.0.0.0.0.0.0.0.1,
      ne_eqb _ 5 c.in_default.in_default-own.rest.0.0.0.0.0.0.0.1,
      ne_eqb _ 6 c.in_default.in_default-own.rest.0.0.0.0.0.0.1,
      ne_eqb _ 7 c.in_default.in_default-own.rest.0.0.0.0.0.1,
      ne_eqb _ 70 c.in_default.in_default-own.rest.0.0.0.0.1,
      ne_eqb _ 71 c.in_default.in_default-own.rest.0.0.0.1,
      ne_eqb _ 78 c.in_default.in_default-own.rest.0.0.1,
      ne_eqb _ 81 c.in_default.in_default-own.rest.0.1,
      ne_eqb _ 87 c.in_default.in_default-own.rest.1,
    ) in
    c.masks-in_default.ensures ∙ ap masks_of (sym (others _ c.requires) ∙ pick_false _ _ none)

pub masks-requires : goal.masks-requires
unfolding kinds_at register_kinds slot kept_leaves
masks-requires c = search rules

pub masks-requires-in-1 : goal.masks-requires-in-1
unfolding kinds_at register_kinds slot kept_leaves
masks-requires-in-1 c = search rules

pub masks-requires-in-3 : goal.masks-requires-in-3
unfolding kinds_at register_kinds slot kept_leaves
masks-requires-in-3 c = search rules

pub masks-requires-in-4 : goal.masks-requires-in-4
unfolding kinds_at register_kinds slot kept_leaves
masks-requires-in-4 c = search rules

pub masks-requires-in-5 : goal.masks-requires-in-5
unfolding kinds_at register_kinds slot kept_leaves
masks-requires-in-5 c = search rules

pub masks-requires-in-6 : goal.masks-requires-in-6
unfolding kinds_at register_kinds slot kept_leaves
masks-requires-in-6 c = search rules

pub masks-requires-in-7 : goal.masks-requires-in-7
unfolding kinds_at register_kinds slot kept_leaves
masks-requires-in-7 c = search rules

pub masks-requires-in-70 : goal.masks-requires-in-70
unfolding kinds_at register_kinds slot kept_leaves
masks-requires-in-70 c = search rules

pub masks-requires-in-71 : goal.masks-requires-in-71
unfolding kinds_at register_kinds slot kept_leaves
masks-requires-in-71 c = search rules

pub masks-requires-in-78 : goal.masks-requires-in-78
unfolding kinds_at register_kinds slot kept_leaves
masks-requires-in-78 c = search rules

pub masks-requires-in-81 : goal.masks-requires-in-81
unfolding kinds_at register_kinds slot kept_leaves
masks-requires-in-81 c = search rules

pub masks-requires-in-87 : goal.masks-requires-in-87
unfolding kinds_at register_kinds slot kept_leaves
masks-requires-in-87 c = search rules

pub masks-requires-in_default : goal.masks-requires-in_default
unfolding kinds_at register_kinds slot kept_leaves
masks-requires-in_default c = search rules

pub returns-in-0 : goal.returns-in-0
unfolding kinds_at register_kinds slot kept_leaves
returns-in-0 c = rw (c.masks.ensures, c.in-0.is)

pub returns-in-1 : goal.returns-in-1
unfolding kinds_at register_kinds slot kept_leaves
returns-in-1 c = rw (c.masks-in-1.ensures, c.in-1.is)

pub returns-in-3 : goal.returns-in-3
unfolding kinds_at register_kinds slot kept_leaves
returns-in-3 c = rw (c.masks-in-3.ensures, c.in-3.is)

pub returns-in-4 : goal.returns-in-4
unfolding kinds_at register_kinds slot kept_leaves
returns-in-4 c = rw (c.masks-in-4.ensures, c.in-4.is)

pub returns-in-5 : goal.returns-in-5
unfolding kinds_at register_kinds slot kept_leaves
returns-in-5 c = rw (c.masks-in-5.ensures, c.in-5.is)

pub returns-in-6 : goal.returns-in-6
unfolding kinds_at register_kinds slot kept_leaves
returns-in-6 c = rw (c.masks-in-6.ensures, c.in-6.is)

pub returns-in-7 : goal.returns-in-7
unfolding kinds_at register_kinds slot kept_leaves
returns-in-7 c = rw (c.masks-in-7.ensures, c.in-7.is)

pub returns-in-70 : goal.returns-in-70
unfolding kinds_at register_kinds slot kept_leaves
returns-in-70 c = rw (c.masks-in-70.ensures, c.in-70.is)

pub returns-in-71 : goal.returns-in-71
unfolding kinds_at register_kinds slot kept_leaves
returns-in-71 c = rw (c.masks-in-71.ensures, c.in-71.is)

pub returns-in-78 : goal.returns-in-78
unfolding kinds_at register_kinds slot kept_leaves
returns-in-78 c = rw (c.masks-in-78.ensures, c.in-78.is)

pub returns-in-81 : goal.returns-in-81
unfolding kinds_at register_kinds slot kept_leaves
returns-in-81 c = rw (c.masks-in-81.ensures, c.in-81.is)

pub returns-in-87 : goal.returns-in-87
unfolding kinds_at register_kinds slot kept_leaves
returns-in-87 c = rw (c.masks-in-87.ensures, c.in-87.is)
