-- Check 3 on the D subleaves, and check 5: the verdicts on the needed subleaves and on the save area decide their conditions.
use Rattle.std.specs.Prelude.{◌≡◌, refl, Bool, true, false, ◌&&◌, ◌↔◌, ℕ, zero, suc, ◌^◌, ◌≤◌, ◌<◌, ltb, leb, None, Some}
use Rattle.std.proofs.Common.{inl, inr, le_trans, eq-or-lt_of_le, arith, ltb-true, ltb-false, leb-true, leb-false, le-leb}
use Rattle.bits.specs.Choice.{pick}
use Rattle.bits.specs.ChoiceLaws.{never_both, and_left, and_right, if_fails}
use Rattle.bits.specs.SearchLaws.{Lowest}
use Rattle.bits.specs.Bits.{bit, has}
use Rattle.bits.specs.BitsLaws.{has_bit, bit_has}
use Rattle.masking.specs.Place
use Rattle.table.specs.declared.Refusal.TheVariants.{SaveAreaOverflow}
use Rattle.table.specs.Rows.{Rows}
use Rattle.checks.specs.ExtendedState.{xfem, combined_mask, supplied, sum_at, grown, area_below, save_area, size_of}
use Rattle.checks.specs.Checks.{missing_component, components_of, components_verdict, size_verdict, area_verdict}
use Rattle.refusals.specs.Conditions.{Lacking, ComponentFault, AreaFault}
use Rattle.refusals.specs.Settles.{Settles, never, holds, lowest_decides}

-- ---- needed subleaves: a subleaf is lacking exactly where it is not supplied

lacking_unsupplied : (m : Rows) (k : ℕ) → Lacking m k → supplied m (combined_mask m) k ≡ false
lacking_unsupplied m k l = rw (bit_has k (combined_mask m) l.needed) l.absent

unsupplied_lacking : (m : Rows) (k : ℕ) → 2 ≤ k → k < 64 → supplied m (combined_mask m) k ≡ false → Lacking m k
unsupplied_lacking m k l u e =
    let (n, a) = if_fails (has k (combined_mask m)) (m (Place.extended_state k)).present e in
    record { from = l; below = u; needed = has_bit k (combined_mask m) n; absent = a }

not_false_true : (b : Bool) → (b ≡ false → ⊥) → b ≡ true
not_false_true true n = refl
not_false_true false n = absurd (n refl)

component_lowest : (m : Rows) (k : ℕ) → ComponentFault m k ↔ Lowest (supplied m (combined_mask m)) 2 62 k
component_lowest m k = (
  λ f. record {
    from = f.lacking.from;
    below = omega (arith, f.lacking.below);
    fails = lacking_unsupplied m k f.lacking;
    before = λ i l u.
        not_false_true (supplied m (combined_mask m) i) (λ e. f.lowest i u (unsupplied_lacking m i l (omega (arith, f.lacking.below)) e));
  },
  λ l. record {
    lacking = unsupplied_lacking m k l.from (omega (arith, l.below)) l.fails;
    lowest = λ j u g. never_both (l.before j g.from u) (lacking_unsupplied m j g);
  },
)

pub components_decide : (m : Rows) → Settles (λ q. (k : ℕ) × ComponentFault m k × (q ≡ missing_component k)) (components_verdict m)
unfolding components_verdict components_of
components_decide m = lowest_decides (supplied m (combined_mask m)) 2 62 missing_component (component_lowest m)

-- ---- save area: it is too large exactly where a sum is

-- a subleaf below n whose sum is too large
record Large (m : Rows) (x n : ℕ) : Type 0 where
  subleaf : ℕ
  from : 2 ≤ subleaf
  below : subleaf < n
  saved : bit subleaf x ≡ 1
  large : 2 ^ 32 ≤ sum_at m subleaf

large_below : {m : Rows} {x n : ℕ} → Large m x n → Large m x (suc n)
large_below l = record { subleaf = l.subleaf; from = l.from; below = omega (arith, l.below); saved = l.saved; large = l.large }

area_large : (m : Rows) (x n : ℕ) → 2 ^ 32 ≤ area_below m x n → Large m x n
unfolding area_below
area_large m x zero h = absurd (omega arith)
area_large m x (suc k) h = go (area_large m x k) (leb (2 ^ 32) (area_below m x k)) refl (leb 2 k && has k x) refl h
  where
    go : (2 ^ 32 ≤ area_below m x k → Large m x k)
        → (already : Bool) → leb (2 ^ 32) (area_below m x k) ≡ already → (saved : Bool) → (leb 2 k && has k x) ≡ saved
        → 2 ^ 32 ≤ grown (area_below m x k) saved (sum_at m k) → Large m x (suc k)
    go ih true a saved e h = large_below (ih (leb-true _ _ a))
    go ih false a true e h =
        record {
          subleaf = k;
          from = leb-true 2 k (and_left _ _ e);
          below = omega arith;
          saved = has_bit k x (and_right (leb 2 k) _ e);
          large = omega (arith, leb-false (2 ^ 32) (area_below m x k) a);
        }
    go ih false a false e h = absurd (omega (arith, leb-false (2 ^ 32) (area_below m x k) a))

sum_le_area : (m : Rows) (x n k : ℕ) → 2 ≤ k → k < n → has k x ≡ true → sum_at m k ≤ area_below m x n
unfolding area_below
sum_le_area m x zero k l u h = absurd (omega arith)
sum_le_area m x (suc n) k l u h =
    elim (eq-or-lt_of_le u) [
      | inl q ↦ let p : n ≡ k = omega arith in rw (p, le-leb 2 k l, h) (omega arith)
      | inr q ↦ le_trans (sum_le_area m x n k l (omega arith) h) (omega arith)
    ]

pub area_decides : (m : Rows) → Settles (λ q. AreaFault m × (q ≡ SaveAreaOverflow)) (area_verdict m)
unfolding area_verdict size_of
area_decides m = go (ltb (save_area m (xfem m)) (2 ^ 32)) refl
  where
    go : (b : Bool) → ltb (save_area m (xfem m)) (2 ^ 32) ≡ b
        → Settles (λ q. AreaFault m × (q ≡ SaveAreaOverflow)) (size_verdict (pick b (Some (save_area m (xfem m))) None))
    go true e =
        never
        (λ f.
        let l : sum_at m f.subleaf ≤ save_area m (xfem m) =
        sum_le_area m (xfem m) 64 f.subleaf f.from f.below (bit_has _ _ f.saved) in
        omega (arith, f.large, ltb-true (save_area m (xfem m)) (2 ^ 32) e))
    go false e =
        let l : Large m (xfem m) 64 = area_large m (xfem m) 64 (ltb-false _ _ e) in
        holds (record { subleaf = l.subleaf; from = l.from; below = l.below; saved = l.saved; large = l.large })
