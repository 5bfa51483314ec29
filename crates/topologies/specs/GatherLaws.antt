-- Laws of lists put end to end: where nothing stands, and how long they are.
use Rattle.std.specs.Prelude.{◌≡◌}
use Rattle.std.proofs.Math.Path.{refl, ap, ap₂}
use Rattle.std.proofs.Common.{sym, ◌∙◌, eq-or-lt_of_le}
use Rattle.std.proofs.Math.Logic.{inl, inr}
use mathlib.Core.List.{List, [], ◌++◌, append-nil}
use Prim.Native.Nat.{ℕ, zero, suc, ◌+◌, ◌≤◌, ◌<◌}
use native.Mathlib.Omega.{arith}
use Rattle.std.proofs.Math.ListN.{length, length-append}
use Rattle.bits.specs.Lists.{sum_to}
use Rattle.topologies.specs.Gather.{gather}

module _ {A : Type 0} where
  -- nothing anywhere
  pub gather_none : (n : ℕ) (f : ℕ → List A) → ((i : ℕ) → i < n → f i ≡ []) → gather n f ≡ []
  unfolding gather
  gather_none zero f h = refl
  gather_none (suc n) f h = ap₂ ◌++◌ (gather_none n f (λ i l. h i (omega arith))) (h n (omega arith))

  -- nothing from m on
  pub gather_short : (m n : ℕ) (f : ℕ → List A) → m ≤ n → ((i : ℕ) → m ≤ i → i < n → f i ≡ []) → gather n f ≡ gather m f
  unfolding gather
  gather_short m zero f l h = let e : m ≡ 0 = omega arith in rw e
  gather_short m (suc n) f l h = elim (eq-or-lt_of_le l) [
    | inl q ↦ ap (λ (k : ℕ). gather k f) (sym q)
    | inr q ↦
        ap₂ ◌++◌ (gather_short m n f (omega arith) (λ i u v. h i u (omega arith))) (h n (omega arith) (omega arith)) ∙ append-nil (gather m f)
  ]

  -- something at k alone
  pub gather_only : (k n : ℕ) (f : ℕ → List A) → k < n → ((i : ℕ) → (i ≡ k → ⊥) → f i ≡ []) → gather n f ≡ f k
  unfolding gather
  gather_only k n f l h =
      gather_short (suc k) n f l (λ i u v. h i (λ q. omega arith))
      ∙ ap (λ (x : List A). x ++ f k) (gather_none k f (λ i u. h i (λ q. omega arith)))

  pub gather_length : (n : ℕ) (f : ℕ → List A) → length (gather n f) ≡ sum_to (λ i. length (f i)) n
  unfolding gather sum_to
  gather_length zero f = refl
  gather_length (suc n) f = length-append (gather n f) (f n) ∙ ap (λ (k : ℕ). k + length (f n)) (gather_length n f)

  -- the lists up to some number are no longer than all
  pub gather_le : (m n : ℕ) (f : ℕ → List A) → m ≤ n → length (gather m f) ≤ length (gather n f)
  unfolding gather
  gather_le m zero f l = let e : m ≡ 0 = omega arith in rw e (omega arith)
  gather_le m (suc n) f l = elim (eq-or-lt_of_le l) [
    | inl q ↦ rw q (omega arith)
    | inr q ↦ omega (arith, gather_le m n f (omega arith), length-append (gather n f) (f n))
  ]
