-- A list that a loop changes in place, from old to new. The invariant: elements below the loop's index have their new values, the others their old
-- ones.
use Rattle.std.specs.Prelude.{◌≡◌, List, ℕ, ◌+◌, ◌≤◌, ◌<◌, length, get_or, set}
use Rattle.std.proofs.Common.{◌∙◌, inl, inr, eq-or-lt_of_le, arith, length-set, get_or-set_same, get_or-set_other}
use Rattle.bits.specs.Lists.{tabulate}
use Rattle.bits.specs.ListsLaws.{tabulated}

pub record UpTo {A : Type 0} (d : A) (new : ℕ → A) (old out : List A) (i : ℕ) : Type 0 where
  pub size : length out ≡ length old
  pub below : (j : ℕ) → j < i → get_or out j d ≡ new j
  pub above : (j : ℕ) → i ≤ j → get_or out j d ≡ get_or old j d

pub up_to_next : {A : Type 0} {d : A} {new : ℕ → A} {old out : List A} {i k : ℕ} {v : A}
    → k ≡ i + 1 → i < length out → v ≡ new i → UpTo d new old out i → UpTo d new old (set out i v) k
up_to_next {A} {d} {new} {old} {out} {i} {k} {v} q l e u = record {
  size = length-set out i v ∙ u.size;
  below = below';
  above = λ j h. get_or-set_other out i j v d (λ p. omega arith) ∙ u.above j (omega arith);
}
  where
    below' : (j : ℕ) → j < k → get_or (set out i v) j d ≡ new j
    below' j h =
        elim (eq-or-lt_of_le h) [
          | inl p ↦ let r : j ≡ i = omega arith in rw r (get_or-set_same out i v d l ∙ e)
          | inr p ↦ get_or-set_other out i j v d (λ r. omega arith) ∙ u.below j (omega arith)
        ]

pub up_to_same : {A : Type 0} {d : A} {new : ℕ → A} {old out : List A} {i k : ℕ}
    → k ≡ i + 1 → get_or out i d ≡ new i → UpTo d new old out i → UpTo d new old out k
up_to_same {A} {d} {new} {old} {out} {i} {k} q e u = record {
  size = u.size;
  below = below';
  above = λ j h. u.above j (omega arith);
}
  where
    below' : (j : ℕ) → j < k → get_or out j d ≡ new j
    below' j h = elim (eq-or-lt_of_le h) [ inl p ↦ let r : j ≡ i = omega arith in rw r e | inr p ↦ u.below j (omega arith) ]

-- after the last element
pub up_to_end : {A : Type 0} {d : A} {new : ℕ → A} {old out : List A} {n k : ℕ}
    → length old ≡ n → n ≤ k → UpTo d new old out k → out ≡ tabulate n new
up_to_end {A} {d} {new} {old} {out} {n} e h u = tabulated n new out d (u.size ∙ e) (λ j l. u.below j (omega arith))
