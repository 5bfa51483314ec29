-- A flip among the entries of a page set, in order: the entries before it and after it stay.
use Rattle.std.specs.Prelude.{◌≡◌, Bool, ◌&&◌}
use Rattle.std.proofs.Math.Path.{refl, sym, ap, ap₂}
use Rattle.std.proofs.Common.{◌∙◌, subst, arith}
use Rattle.std.proofs.Math.Bool.{true, false}
use mathlib.Core.List.{List, [], ◌∷◌, ◌++◌, map, map-append}
use Prim.Native.Nat.{ℕ, zero, suc, ◌+◌, ◌*◌, ◌≤◌, ◌<◌}
use Rattle.std.proofs.Math.Dec.{eqb}
use borrow.Author.Tests.{eqb-true, eqb-false, eq-eqb}
use Rattle.bits.specs.Choice.{pick}
use Rattle.pages.specs.Layout.{Entry, entry_at, most_entries, pages_in, count_of, counts_fit}
use Rattle.pages.specs.LayoutLaws.{counts_fit_at}
use Rattle.pages.specs.Entries.{on_page, on_pages, entries}
use Rattle.nearest.specs.Flips.{flip, flipped}
use Rattle.nearest.specs.OneBit.{flip_entry}
use Rattle.nearest.specs.FlippedEntryLaws.{Inside, same_pages, same_count, entry_flipped, entry_other}

-- where an entry stands, as one number
abbrev rank : Entry → ℕ
rank e = 64 * e.page + e.position

-- entries of rising numbers, the first at least a
pub data Rising : ℕ → List Entry → Type 0 where
  none : {a : ℕ} → Rising a []
  next : {a : ℕ} {e : Entry} {es : List Entry} → a ≤ rank e → Rising (suc (rank e)) es → Rising a (e ∷ es)

rising_from : (a b : ℕ) {es : List Entry} → b ≤ a → Rising a es → Rising b es
rising_from a b l none = none
rising_from a b l (next {e = e} h r) = next {a = b} {e = e} (omega arith) r

-- the entries of page p from position q on, and then others
on_page_rising : (s : List ℕ) (p q n : ℕ) (es : List Entry) → Rising (64 * p + (q + n)) es → Rising (64 * p + q) (on_page s p q n ++ es)
unfolding on_page entry_at
on_page_rising s p q zero es r = rising_from (64 * p + (q + 0)) (64 * p + q) (omega arith) r
on_page_rising s p q (suc n) es r =
    next {a = 64 * p + q} {e = entry_at s p q} (omega arith)
    (rising_from (64 * p + suc q) (suc (64 * p + q)) (omega arith)
    (on_page_rising s p (suc q) n es (rising_from (64 * p + (q + suc n)) (64 * p + (suc q + n)) (omega arith) r)))

on_pages_rising : (s : List ℕ) (p n : ℕ) → ((j : ℕ) → p ≤ j → j < p + n → count_of s j ≤ most_entries) → Rising (64 * p) (on_pages s p n)
unfolding on_pages
on_pages_rising s p zero h = none
on_pages_rising s p (suc n) h =
    rising_from (64 * p + 0) (64 * p) (omega arith)
    (on_page_rising s p 0 (count_of s p) (on_pages s (suc p) n)
    (rising_from (64 * suc p) (64 * p + (0 + count_of s p)) (omega (arith, h p (omega arith) (omega arith)))
    (on_pages_rising s (suc p) n (λ j l u. h j (omega arith) (omega arith)))))

pub entries_rising : (s : List ℕ) → counts_fit s ≡ true → Rising 0 (entries s)
unfolding entries
entries_rising s e = on_pages_rising s 0 (pages_in s) (λ j l u. counts_fit_at s e j (omega arith))

-- ---- the flip, entry by entry

-- the entry at page p and position q flipped, any other as it is
unfoldable pub flip_at : ℕ → ℕ → ℕ → ℕ → Entry → Entry
flip_at p q r k e = pick (eqb e.page p && eqb e.position q) (flip_entry r k e) e

module _ (s : List ℕ) (p q r k : ℕ) (h : Inside s p q r k) where
  at_flip : (p' q' : ℕ) → q' < most_entries → entry_at (flipped s (flip p q r k)) p' q' ≡ flip_at p q r k (entry_at s p' q')
  unfolding flip_at entry_at
  at_flip p' q' l = go (eqb p' p) (eqb q' q) refl refl
    where
      go : (a b : Bool) → eqb p' p ≡ a → eqb q' q ≡ b
          → entry_at (flipped s (flip p q r k)) p' q' ≡ pick (a && b) (flip_entry r k (entry_at s p' q')) (entry_at s p' q')
      go true true e f = rw (eqb-true p' p e, eqb-true q' q f) (entry_flipped s p q r k h)
      go true false e f = entry_other s p q r k h p' q' l (λ x y. eqb-false q' q f y)
      go false b e f = entry_other s p q r k h p' q' l (λ x y. eqb-false p' p e x)

  on_page_flip : (p' q' n : ℕ) → q' + n ≤ most_entries → on_page (flipped s (flip p q r k)) p' q' n ≡ map (flip_at p q r k) (on_page s p' q' n)
  unfolding on_page
  on_page_flip p' q' zero l = refl
  on_page_flip p' q' (suc n) l = ap₂ ◌∷◌ (at_flip p' q' (omega arith)) (on_page_flip p' (suc q') n (omega arith))

  on_pages_flip : (p' n : ℕ) → ((j : ℕ) → p' ≤ j → j < p' + n → count_of s j ≤ most_entries)
      → on_pages (flipped s (flip p q r k)) p' n ≡ map (flip_at p q r k) (on_pages s p' n)
  unfolding on_pages
  on_pages_flip p' zero g = refl
  on_pages_flip p' (suc n) g =
      ap₂ ◌++◌
      (ap (on_page (flipped s (flip p q r k)) p' 0) (same_count s p q r k h p')
      ∙ on_page_flip p' 0 (count_of s p') (omega (arith, g p' (omega arith) (omega arith))))
      (on_pages_flip (suc p') n (λ j l u. g j (omega arith) (omega arith)))
      ∙ sym (map-append _ (on_page s p' 0 (count_of s p')) (on_pages s (suc p') n))

  pub entries_flip : counts_fit s ≡ true → entries (flipped s (flip p q r k)) ≡ map (flip_at p q r k) (entries s)
  unfolding entries
  entries_flip e =
      ap (on_pages (flipped s (flip p q r k)) 0) (same_pages s p q r k h) ∙ on_pages_flip 0 (pages_in s) (λ j l u. counts_fit_at s e j (omega arith))

-- ---- those before and after stay

module _ (p q r k : ℕ) where
  flip_other : (e : Entry) → (rank e ≡ 64 * p + q → ⊥) → flip_at p q r k e ≡ e
  unfolding flip_at
  flip_other e n = go (eqb e.page p) (eqb e.position q) refl refl
    where
      go : (a b : Bool) → eqb e.page p ≡ a → eqb e.position q ≡ b → pick (a && b) (flip_entry r k e) e ≡ e
      go true true u v = absurd (n (omega (arith, eqb-true e.page p u, eqb-true e.position q v)))
      go true false u v = refl
      go false b u v = refl

  above : {a : ℕ} {es : List Entry} → 64 * p + q < a → Rising a es → map (flip_at p q r k) es ≡ es
  above l none = refl
  above l (next {e = e} {es = es} g t) = ap₂ ◌∷◌ (flip_other e (λ x. omega arith)) (above {a = suc (rank e)} (omega arith) t)

  lowest : {a : ℕ} (done : List Entry) (e : Entry) (es : List Entry) → Rising a (done ++ e ∷ es) → a ≤ rank e
  lowest [] e es (next g t) = g
  lowest {a = a} (d ∷ done) e es (next g t) = let u = lowest {a = suc (rank d)} done e es t in omega arith

  pub around : {a : ℕ} (done : List Entry) (e : Entry) (es : List Entry) → Rising a (done ++ e ∷ es) → e.page ≡ p → e.position ≡ q
      → map (flip_at p q r k) (done ++ e ∷ es) ≡ done ++ flip_entry r k e ∷ es
  around [] e es (next g t) x y =
      ap₂ ◌∷◌ (unfold flip_at in rw (eq-eqb e.page p x, eq-eqb e.position q y)) (above {a = suc (rank e)} (omega arith) t)
  around {a = a} (d ∷ done) e es (next g t) x y =
      let u = lowest {a = suc (rank d)} done e es t in
      ap₂ ◌∷◌ (flip_other d (λ z. omega arith)) (around {a = suc (rank d)} done e es t x y)

-- a flip of an entry among the others
pub flip_among : (s : List ℕ) (p q r k : ℕ) → Inside s p q r k → counts_fit s ≡ true → (done es : List Entry) → entries s ≡ done ++ entry_at s p q ∷ es
    → entries (flipped s (flip p q r k)) ≡ done ++ flip_entry r k (entry_at s p q) ∷ es
unfolding entry_at
flip_among s p q r k h c done es e =
    entries_flip s p q r k h c ∙ ap (map (flip_at p q r k)) e
    ∙ around p q r k done (entry_at s p q) es (subst (Rising 0) e (entries_rising s c)) refl refl
