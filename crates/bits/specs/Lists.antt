-- A list given by its elements, and the elements of a list that pass a test.
use Rattle.std.specs.Prelude.{Bool, true, false, List, [], ◌∷◌, ℕ, zero, suc, ◌+◌}
use Rattle.bits.specs.Choice.{pick}

-- f 0, f 1, .. : n elements
unfoldable pub tabulate {ℓ} : {A : Type ℓ} → ℕ → (ℕ → A) → List A
tabulate zero f = []
tabulate (suc n) f = f 0 ∷ tabulate n (λ k. f (suc k))

-- the elements that pass, in their order
unfoldable pub keep_if {ℓ} : {A : Type ℓ} → (A → Bool) → List A → List A
keep_if test [] = []
keep_if test (x ∷ xs) = pick (test x) (x ∷ keep_if test xs) (keep_if test xs)

-- f 0 + f 1 + .. : n summands
unfoldable pub sum_to : (ℕ → ℕ) → ℕ → ℕ
sum_to f zero = 0
sum_to f (suc n) = sum_to f n + f n

-- 1 where the test holds, else 0
abbrev pub one : Bool → ℕ
one true = 1
one false = 0
