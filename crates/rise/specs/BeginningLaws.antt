-- The entries of a page set are a beginning of its entries with others added.
use Rattle.std.specs.Prelude.{◌≡◌, Bool, List, [], ◌∷◌, ◌++◌}
use Rattle.std.proofs.Math.Path.{refl}
use Rattle.std.proofs.Common.{ap, ap₂, ◌∙◌, arith}
use Prim.Native.Nat.{ℕ, zero, suc, ◌+◌, ◌≤◌, ◌<◌}
use Rattle.bits.specs.Lists.{keep_if}
use Rattle.bits.specs.ListsLaws.{keep_append}
use Rattle.pages.specs.Layout.{Entry, count_of, entry_at}
use Rattle.pages.specs.Entries.{on_page, on_pages}

-- xs is a beginning of ys: more follows
pub record Begins {ℓ} {A : Type ℓ} (xs ys : List A) : Type ℓ where
  pub more : List A
  pub whole : ys ≡ xs ++ more

pub keep_begins {ℓ} : {A : Type ℓ} (test : A → Bool) {xs ys : List A} → Begins xs ys → Begins (keep_if test xs) (keep_if test ys)
keep_begins test {xs} b = record { more = keep_if test b.more; whole = ap (keep_if test) b.whole ∙ keep_append test xs b.more }

-- ---- one page

-- its entries are known one by one
pub page_same : (s u : List ℕ) (p q n : ℕ) → ((i : ℕ) → q ≤ i → i < q + n → entry_at u p i ≡ entry_at s p i) → on_page u p q n ≡ on_page s p q n
unfolding on_page
page_same s u p q zero f = refl
page_same s u p q (suc n) f = ap₂ ◌∷◌ (f q (omega arith) (omega arith)) (page_same s u p (suc q) n (λ i l h. f i (omega arith) (omega arith)))

-- a longer page goes on where a shorter one ends
pub page_split : (s : List ℕ) (p q n k m : ℕ) → m ≡ n + k → on_page s p q m ≡ on_page s p q n ++ on_page s p (q + n) k
unfolding on_page
page_split s p q zero k m e = let f : m ≡ k = omega arith in let z : q + 0 ≡ q = omega arith in rw (f, z)
page_split s p q (suc n) k zero e = absurd (omega arith)
page_split s p q (suc n) k (suc m) e =
    ap (λ (es : List Entry). entry_at s p q ∷ es)
    (page_split s p (suc q) n k m (omega arith) ∙ ap (λ (i : ℕ). on_page s p (suc q) n ++ on_page s p i k) (omega arith))

-- pages without entries
pub pages_empty : (s : List ℕ) (p n : ℕ) → ((i : ℕ) → p ≤ i → i < p + n → count_of s i ≡ 0) → on_pages s p n ≡ []
unfolding on_pages on_page
pages_empty s p zero f = refl
pages_empty s p (suc n) f =
    rw (f p (omega arith) (omega arith)) (pages_empty s (suc p) n (λ i l h. f i (omega arith) (omega arith)))
