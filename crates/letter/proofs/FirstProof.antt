-- The first entry of a place is the first of its leaf and subleaf.
use Rattle.std.specs.Prelude.{◌≡◌, Bool, true, false, ◌&&◌, ◌||◌, not, ℕ, ◌<◌, eqb, ltb, None, Some}
use Rattle.std.proofs.Math.Path.{refl, fun_ext}
use Rattle.std.proofs.Common.{sym, ap, ap₂, ◌∙◌, eqb-true, eq-eqb, ltb-true}
use mathlib.Core.List.{List, [], ◌∷◌}
use Rattle.bits.specs.Choice.{pick}
use Rattle.bits.specs.ChoiceLaws.{never_both, pick_false, and_left, and_right, and_both}
use Rattle.bits.specs.Lists.{tabulate}
use Rattle.bits.specs.ListsLaws.{tabulate_at}
use Rattle.x86defs.specs.declared.CpuidFunction.{CpuidFunction}
use Rattle.pages.specs.Layout.{Entry}
use Rattle.x86defs.specs.Functions.{function}
use Rattle.masking.specs.Kept.{kept_leaves, place_of, slot, leaf_at, subleaf_at, indexed_at}
use Rattle.masking.specs.Place.{made_here}
use Rattle.masking.specs.KeptLaws.{place_of_slot, Belongs, entry_belongs}
use Rattle.table.specs.Rows.{Row, vacant}
use Rattle.collect.specs.FirstEntries.{first_at, place_of_entry}
use Rattle.letter.specs.Paper.{first, is_of}
use Rattle.letter.specs.Names.{sub_at}
use Rattle.letter.specs.FirstProof.{any_subleaf, entry_place}

module _ (i : ℕ) (l : i < 88) (made : made_here i ≡ false) where
  goes : (e : Entry) → is_of (leaf_at i).0 (sub_at i) e ≡ true → place_of_entry e ≡ i
  goes e = go (indexed_at i) refl
    where
      leaf_same : eqb e.leaf.0 (leaf_at i).0 ≡ true → e.leaf ≡ leaf_at i
      leaf_same h = ap function (eqb-true _ _ h)

      go : (b : Bool) → indexed_at i ≡ b → is_of (leaf_at i).0 (pick b (Some (subleaf_at i)) None) e ≡ true → place_of_entry e ≡ i
      go true q h =
          ap₂ place_of (leaf_same (and_left _ _ h)) (eqb-true _ _ (and_right (eqb e.leaf.0 (leaf_at i).0) _ h))
          ∙ place_of_slot i l ∙ pick_false _ _ made
      go false q h =
          ap (λ (f : CpuidFunction). place_of f e.subleaf) (leaf_same h)
          ∙ sym (pick_false _ _ (ap₂ ◌||◌ q made))
          ∙ tabulate_at 88 _ _ (any_subleaf e.subleaf) i l

  comes : (e : Entry) → place_of_entry e ≡ i → is_of (leaf_at i).0 (sub_at i) e ≡ true
  comes e p = go (indexed_at i) refl
    where
      b : Belongs e.leaf e.subleaf (slot false i)
      b = entry_belongs e.leaf e.subleaf i p l

      leaf_same : eqb e.leaf.0 (leaf_at i).0 ≡ true
      leaf_same = eq-eqb _ _ (sym (ap (λ (f : CpuidFunction). f.0) b.leaf))

      go : (c : Bool) → indexed_at i ≡ c → is_of (leaf_at i).0 (pick c (Some (subleaf_at i)) None) e ≡ true
      go true q = and_both leaf_same (eq-eqb _ _ (sym (b.subleaf q)))
      go false q = leaf_same

  same_test : (e : Entry) → eqb (place_of_entry e) i ≡ is_of (leaf_at i).0 (sub_at i) e
  same_test e = go (eqb (place_of_entry e) i) (is_of (leaf_at i).0 (sub_at i) e) refl refl
    where
      go : (a b : Bool) → eqb (place_of_entry e) i ≡ a → is_of (leaf_at i).0 (sub_at i) e ≡ b → a ≡ b
      go true true p q = refl
      go false false p q = refl
      go true false p q = absurd (never_both (comes e (eqb-true _ _ p)) q)
      go false true p q = absurd (never_both (eq-eqb _ _ (goes e q)) p)

  pub first_same : (es : List Entry) → first_at i es ≡ first es (leaf_at i).0 (sub_at i)
  unfolding first_at first
  first_same [] = refl
  first_same (e ∷ es) = rw (same_test e, first_same es)

-- ---- so entries by place are entries by leaf and subleaf, at every place that entries go to

module _ (es : List Entry) where
  abbrev pub kept_first : ℕ → Row
  kept_first i = pick (entry_place i) (first_at i es) vacant

  abbrev pub told_first : ℕ → Row
  told_first i = pick (entry_place i) (first es (leaf_at i).0 (sub_at i)) vacant

  pub kept_told : kept_first ≡ told_first
  kept_told = fun_ext (λ i. go i (ltb i 88) (made_here i) refl refl)
    where
      go : (i : ℕ) (a b : Bool) → ltb i 88 ≡ a → made_here i ≡ b
          → pick (a && not b) (first_at i es) vacant ≡ pick (a && not b) (first es (leaf_at i).0 (sub_at i)) vacant
      go i true false p q = first_same i (ltb-true i 88 p) q es
      go i true true p q = refl
      go i false b p q = refl
