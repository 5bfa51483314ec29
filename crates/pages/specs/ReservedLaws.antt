-- Clean pages by page and position, and that what `reserved_of` names is the first entry that is not clean.
use Rattle.std.specs.Prelude.{◌≡◌, Bool, true, false, List, [], ◌∷◌, ◌++◌, Err, Ok}
use Rattle.std.proofs.Math.Path.{refl}
use Rattle.std.proofs.Common.{ap, ◌∙◌, le_refl, eq-or-lt_of_le, arith}
use Rattle.std.proofs.Math.Logic.{inl, inr}
use Prim.Native.Nat.{ℕ, zero, suc, ◌+◌, ◌≤◌, ◌<◌}
use Rattle.bits.specs.Choice.{pick}
use Rattle.bits.specs.ChoiceLaws.{never_both}
use Rattle.bits.specs.Lists.{keep_if}
use Rattle.bits.specs.SearchLaws.{every_at, every_fails, Lowest}
use Rattle.pages.specs.Layout.{Entry, entry_at, pages_in, count_of}
use Rattle.pages.specs.Entries.{on_page, on_pages, entries}
use Rattle.pages.specs.Reserved.{is_clean_at, clean, first_nonzero, reserved_of, page_clean, all_clean}

-- ---- by page and position

pub clean_at : (s : List ℕ) → all_clean s ≡ true → (p q : ℕ) → p < pages_in s → q < count_of s p → is_clean_at s p q ≡ true
unfolding all_clean
clean_at s e p q h l = every_at (is_clean_at s p) (count_of s p) (every_at (page_clean s) (pages_in s) e p h) q l

pub all_clean_lem : (s : List ℕ) → ((p q : ℕ) → p < pages_in s → q < count_of s p → is_clean_at s p q ≡ true) → all_clean s ≡ true
unfolding all_clean
all_clean_lem s f = go (all_clean s) refl
  where
    go : (b : Bool) → all_clean s ≡ b → b ≡ true
    go true e = refl
    go false e =
        let (p, h, g) = every_fails (page_clean s) (pages_in s) e in
        let (q, l, k) = every_fails (is_clean_at s p) (count_of s p) g in
        absurd (never_both (f p q h l) k)

-- every entry before position q of page p is clean
pub record CleanBefore (s : List ℕ) (p q : ℕ) : Type 0 where
  pub pages : (i j : ℕ) → i < p → j < count_of s i → is_clean_at s i j ≡ true
  pub positions : (j : ℕ) → j < q → is_clean_at s p j ≡ true

-- "first in page and entry order": the entry there is the first that is not clean
pub record FirstUnclean (s : List ℕ) (p q : ℕ) : Type 0 where
  pub page : p < pages_in s
  pub position : q < count_of s p
  pub unclean : is_clean_at s p q ≡ false
  pub before : CleanBefore s p q

-- ---- what is named

module _ (s : List ℕ) where
  page_passed : (p q n : ℕ) (es : List Entry) → ((j : ℕ) → q ≤ j → j < q + n → is_clean_at s p j ≡ true)
      → first_nonzero s (on_page s p q n ++ es) ≡ first_nonzero s es
  unfolding first_nonzero on_page entry_at
  page_passed p q zero es f = refl
  page_passed p q (suc n) es f = rw (f q (le_refl q) (omega arith)) (page_passed p (suc q) n es (λ j l h. f j (omega arith) (omega arith)))

  page_stops : (p q n j : ℕ) (es : List Entry) → Lowest (is_clean_at s p) q n j → first_nonzero s (on_page s p q n ++ es) ≡ Err (entry_at s p j).leaf
  unfolding first_nonzero on_page entry_at
  page_stops p q zero j es l = absurd (omega arith)
  page_stops p q (suc n) j es l =
      elim (eq-or-lt_of_le l.from) [
        | inl e ↦ rw (e, l.fails)
        | inr h ↦ rw (l.before q (le_refl q) h)
            (page_stops p (suc q) n j es
            (record { from = h; below = omega arith; fails = l.fails; before = λ i k u. l.before i (omega arith) u }))
      ]

  pub pages_passed : (p n : ℕ) → ((i j : ℕ) → p ≤ i → i < p + n → j < count_of s i → is_clean_at s i j ≡ true) → first_nonzero s (on_pages s p n) ≡ Ok tt
  unfolding first_nonzero on_pages
  pages_passed p zero f = refl
  pages_passed p (suc n) f =
      page_passed p 0 (count_of s p) (on_pages s (suc p) n) (λ j l h. f p j (le_refl p) (omega arith) (omega arith))
      ∙ pages_passed (suc p) n (λ i j l h. f i j (omega arith) (omega arith))

  pages_stop : (p n i j : ℕ) → p ≤ i → i < p + n → j < count_of s i → is_clean_at s i j ≡ false → CleanBefore s i j
      → first_nonzero s (on_pages s p n) ≡ Err (entry_at s i j).leaf
  unfolding on_pages
  pages_stop p zero i j l h k u b = absurd (omega arith)
  pages_stop p (suc n) i j l h k u b =
      elim (eq-or-lt_of_le l) [
        | inl e ↦ rw e
            (page_stops i 0 (count_of s i) j (on_pages s (suc i) n)
            (record { from = omega arith; below = omega arith; fails = u; before = λ m z v. b.positions m v }))
        | inr g ↦ page_passed p 0 (count_of s p) (on_pages s (suc p) n) (λ m z v. b.pages p m g (omega arith))
            ∙ pages_stop (suc p) n i j g (omega arith) k u b
      ]

pub unclean_named : (s : List ℕ) (p q : ℕ) → FirstUnclean s p q → reserved_of s ≡ Err (entry_at s p q).leaf
unfolding reserved_of entries
unclean_named s p q u = pages_stop s 0 (pages_in s) p q (omega arith) (omega (arith, u.page)) u.position u.unclean u.before

-- pages are clean, or one of their entries is the first that is not
pub data Cleanness (s : List ℕ) : Type 0 where
  clean_pages : all_clean s ≡ true → Cleanness s
  unclean_entry : (p q : ℕ) → FirstUnclean s p q → Cleanness s

-- ---- the entries of clean pages

pub kept_of_zero : (s : List ℕ) (es : List Entry) → first_nonzero s es ≡ Ok tt → keep_if (clean s) es ≡ es
unfolding first_nonzero keep_if
kept_of_zero s [] e = refl
kept_of_zero s (x ∷ es) e = go (kept_of_zero s es) (clean s x) e
  where
    go : (first_nonzero s es ≡ Ok tt → keep_if (clean s) es ≡ es) → (b : Bool) → pick b (first_nonzero s es) (Err x.leaf) ≡ Ok tt
        → pick b (x ∷ keep_if (clean s) es) (keep_if (clean s) es) ≡ x ∷ es
    go ih true f = ap (x ∷◌) (ih f)
    go ih false f = let z : ◌≡◌ {A = ℕ} 0 1 = cc in absurd (omega arith)
