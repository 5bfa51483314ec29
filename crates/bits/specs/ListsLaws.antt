-- Laws of lists given by their elements.
use Rattle.std.specs.Prelude.{◌≡◌, refl, Bool, true, false, List, [], ◌∷◌, ◌++◌, ℕ, zero, suc, ◌+◌, ◌<◌, length, get_or}
use Rattle.std.proofs.Common.{sym, ap, ap₂, ◌∙◌, le_of_suc-le-suc, arith, ext_get_or}
use Rattle.bits.specs.Choice.{pick}
use Rattle.bits.specs.Lists.{tabulate, keep_if, sum_to}

pub length_tabulate {ℓ} : {A : Type ℓ} (n : ℕ) (f : ℕ → A) → length (tabulate n f) ≡ n
unfolding tabulate
length_tabulate zero f = refl
length_tabulate (suc n) f = ap suc (length_tabulate n (λ k. f (suc k)))

pub get_d_tabulate {ℓ} : {A : Type ℓ} (n : ℕ) (f : ℕ → A) (i : ℕ) (d : A) → i < n → get_or (tabulate n f) i d ≡ f i
unfolding tabulate
get_d_tabulate zero f i d h = absurd (omega arith)
get_d_tabulate (suc n) f zero d h = refl
get_d_tabulate (suc n) f (suc i) d h = get_d_tabulate n (λ k. f (suc k)) i d (le_of_suc-le-suc h)

-- a list of n elements is known by them
pub tabulated {ℓ} : {A : Type ℓ} (n : ℕ) (f : ℕ → A) (l : List A) (d : A) → length l ≡ n → ((i : ℕ) → i < n → get_or l i d ≡ f i) → l ≡ tabulate n f
tabulated n f l d e h =
    ext_get_or d l (tabulate n f) (e ∙ sym (length_tabulate n f)) (λ i u. h i (omega arith) ∙ sym (get_d_tabulate n f i d (omega arith)))

pub tabulate_ext {ℓ} : {A : Type ℓ} (n : ℕ) (f g : ℕ → A) → ((i : ℕ) → i < n → f i ≡ g i) → tabulate n f ≡ tabulate n g
tabulate_ext n f g h = tabulated n g (tabulate n f) (f 0) (length_tabulate n f) (λ i l. get_d_tabulate n f i (f 0) l ∙ h i l)

-- two lists of n elements that are equal are equal element by element: a law over a whole table is one equation
pub tabulate_at {ℓ} : {A : Type ℓ} (n : ℕ) (f g : ℕ → A) → tabulate n f ≡ tabulate n g → (i : ℕ) → i < n → f i ≡ g i
tabulate_at n f g e i h = sym (get_d_tabulate n f i (f i) h) ∙ ap (λ l. get_or l i (f i)) e ∙ get_d_tabulate n g i (f i) h

pub sum_ext : (f g : ℕ → ℕ) (n : ℕ) → ((i : ℕ) → i < n → f i ≡ g i) → sum_to f n ≡ sum_to g n
unfolding sum_to
sum_ext f g zero h = refl
sum_ext f g (suc n) h = ap₂ ◌+◌ (sum_ext f g n (λ i l. h i (omega arith))) (h n (omega arith))

pub keep_append {ℓ} : {A : Type ℓ} (test : A → Bool) (xs ys : List A) → keep_if test (xs ++ ys) ≡ keep_if test xs ++ keep_if test ys
unfolding keep_if
keep_append test [] ys = refl
keep_append test (x ∷ xs) ys = go (test x) (keep_append test xs ys)
  where
    go : (b : Bool) → keep_if test (xs ++ ys) ≡ keep_if test xs ++ keep_if test ys
        → pick b (x ∷ keep_if test (xs ++ ys)) (keep_if test (xs ++ ys)) ≡ pick b (x ∷ keep_if test xs) (keep_if test xs) ++ keep_if test ys
    go true e = rw e
    go false e = e
