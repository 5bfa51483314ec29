-- The 88 places stand in the order of their rows: they rise by leaf, as an unsigned number, then by subleaf.
use Rattle.std.specs.Prelude.{◌≡◌, refl, Bool, true, false, ◌&&◌, ◌||◌, ℕ, zero, suc, ◌<◌, eqb, ltb}
use Rattle.std.proofs.Common.{◌∙◌, inl, inr, eq-or-lt_of_le, arith, eqb-true, ltb-true}
use Rattle.bits.specs.ChoiceLaws.{and_left, and_right}
use Rattle.bits.specs.Search.{every}
use Rattle.bits.specs.SearchLaws.{every_at}
use Rattle.bits.specs.Lists.{tabulate}
use Rattle.masking.specs.Kept.{places, leaf_at, subleaf_at, slot, kept_leaves}
use Rattle.table.specs.Order.{Precedes, row_order}

abbrev precedes_next : ℕ → Bool
precedes_next i = ltb (leaf_at i).0 (leaf_at (suc i)).0 || (eqb (leaf_at i).0 (leaf_at (suc i)).0 && ltb (subleaf_at i) (subleaf_at (suc i)))

all_precede : every precedes_next 87 ≡ true
unfolding slot kept_leaves
all_precede = refl

next : (i : ℕ) → i < 87 → Precedes i (suc i)
next i l = go (ltb (leaf_at i).0 (leaf_at (suc i)).0) refl (every_at precedes_next 87 all_precede i l)
  where
    go : (b : Bool) → ltb (leaf_at i).0 (leaf_at (suc i)).0 ≡ b
        → (b || (eqb (leaf_at i).0 (leaf_at (suc i)).0 && ltb (subleaf_at i) (subleaf_at (suc i)))) ≡ true → Precedes i (suc i)
    go true e h = inl (ltb-true _ _ e)
    go false e h = inr (eqb-true _ _ (and_left _ _ h), ltb-true _ _ (and_right (eqb (leaf_at i).0 (leaf_at (suc i)).0) _ h))

precedes_trans : (i j k : ℕ) → Precedes i j → Precedes j k → Precedes i k
precedes_trans i j k (inl p) (inl q) = inl (omega arith)
precedes_trans i j k (inl p) (inr q) = inl (omega arith)
precedes_trans i j k (inr p) (inl q) = inl (omega arith)
precedes_trans i j k (inr p) (inr q) = inr (p.0 ∙ q.0, omega arith)

pub places_rise : (i j : ℕ) → i < j → j < places → Precedes i j
places_rise i zero l u = absurd (omega arith)
places_rise i (suc j) l u =
    elim (eq-or-lt_of_le l) [
      | inl q ↦ rw (← q) (next i (omega arith))
      | inr q ↦ precedes_trans i j (suc j) (places_rise i j (omega arith) (omega arith)) (next j (omega arith))
    ]

-- so the order of the rows is that of the places
pub row_order_lem : row_order ≡ tabulate places (λ i. i)
unfolding row_order tabulate slot kept_leaves
row_order_lem = refl
