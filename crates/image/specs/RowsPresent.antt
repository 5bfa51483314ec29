-- Which rows a table has: the two that are made here, the 24 required ones, and of the components, D.k from 2 up, those in the mask.
use Rattle.std.specs.Prelude.{◌≡◌, refl, Bool, true, false, ◌&&◌, ◌||◌, ℕ, ◌-◌, ◌≤◌, ◌<◌, ltb, leb}
use Rattle.std.proofs.Common.{◌∙◌, arith, ltb-true, leb-true, lt-ltb, le-leb}
use Rattle.bits.specs.Choice.{pick}
use Rattle.bits.specs.ChoiceLaws.{and_left, and_right, and_implied}
use Rattle.bits.specs.Search.{every}
use Rattle.bits.specs.SearchLaws.{every_at}
use Rattle.bits.specs.Lists.{tabulate}
use Rattle.bits.specs.ListsLaws.{tabulate_at}
use Rattle.bits.specs.Bits.{has}
use Rattle.masking.specs.Kept.{places}
use Rattle.masking.specs.Place.{made_here}
use Rattle.masking.specs.Place
use Rattle.table.specs.Rows.{Rows}
use Rattle.checks.specs.ExtendedState.{combined_mask}
use Rattle.finish.specs.Finish.{rule_at, enabled_by, settings, remains, finished}
use Rattle.finish.specs.RemainsLaws.{finished_present}
use Rattle.finish.specs.PlaceLaws.{always, position, always_required}
use Rattle.checks.specs.ChecksLaws.{AllPass, required_present, component_present}

-- D.k, k from 2 up
abbrev component : ℕ → Bool
component i = leb (Place.extended_state 2) i && ltb i (Place.extended_state 64)

-- whether a table with combined mask x has a row at place i
abbrev pub stands : ℕ → ℕ → Bool
stands x i = pick (component i) (has (i - Place.extended_state 0) x) true

pub component_stands : (x k : ℕ) → 2 ≤ k → k < 64 → stands x (Place.extended_state k) ≡ has k x
component_stands x k low high =
    let back : Place.extended_state k - Place.extended_state 0 ≡ k = omega arith in
    rw (
      le-leb (Place.extended_state 2) (Place.extended_state k) (omega arith),
      lt-ltb (Place.extended_state k) (Place.extended_state 64) (omega arith),
      back,
    )

-- what remains, for any entries
abbrev kept : ℕ → (ℕ → Bool) → ℕ → Bool
kept x p i = pick (component i) (has (i - Place.extended_state 0) x && p i) (made_here i || p i)

remains_at : (n : ℕ) (m : Rows) (p : ℕ → Bool) → tabulate places (λ i. remains (settings n m) (rule_at i) (p i)) ≡ tabulate places (kept (combined_mask m) p)
unfolding tabulate settings enabled_by combined_mask
remains_at n m p = refl

-- every place is a component's, made here, or one that an accepted table always has
abbrev known : ℕ → Bool
known i = component i || (made_here i || always (rule_at i))

all_known : every known places ≡ true
all_known = refl

-- the rows of an accepted table, by the mask alone
module _ (n : ℕ) (m : Rows) (pass : AllPass m) where
  entry_present : (i : ℕ) → i < places → always (rule_at i) ≡ true → (m i).present ≡ true
  entry_present i h e = let (listed, place) = always_required i h e in rw place at (required_present m pass.required (position i) listed)

  pub row_stands : (i : ℕ) → i < places → (finished n m i).present ≡ stands (combined_mask m) i
  row_stands i h =
      finished_present n m i ∙ tabulate_at places _ _ (remains_at n m (λ i. (m i).present)) i h
      ∙ go (component i) refl (made_here i) refl (every_at known places all_known i h)
    where
      k : ℕ
      k = i - Place.extended_state 0

      go : (b : Bool) → component i ≡ b → (c : Bool) → made_here i ≡ c → (b || (c || always (rule_at i))) ≡ true
          → pick b (has k (combined_mask m) && (m i).present) (c || (m i).present) ≡ pick b (has k (combined_mask m)) true
      go true e c f t =
          let low : Place.extended_state 2 ≤ i = leb-true _ i (and_left _ _ e) in
          let high : i < Place.extended_state 64 = ltb-true i _ (and_right (leb (Place.extended_state 2) i) _ e) in
          let place : Place.extended_state k ≡ i = omega arith in
          and_implied _ _ (λ has-k. rw place at (component_present m pass.components k (omega arith) (omega arith) has-k))
      go false e true f t = refl
      go false e false f t = entry_present i h t
