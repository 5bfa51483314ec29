-- The two pages made of rows: their words, and their counted entries, which are the rows, those of page 0 first.
use Rattle.std.specs.Prelude.{◌≡◌, Bool, ◌||◌, ℕ, zero, suc, ◌+◌, ◌-◌, ◌*◌, ◌/◌, ◌≤◌, ◌<◌, eqb, replicate}
use Rattle.std.proofs.Math.Path.{refl, sym, ap, ap₂, fun_ext}
use Rattle.std.proofs.Common.{◌∙◌, zero-add, arith, length-append, get_or-append-add, le-leb, eqb-true}
use Rattle.std.proofs.Math.Bool.{true, false, not}
use mathlib.Core.List.{List, [], ◌∷◌, ◌++◌, map, append_assoc, append-nil}
use Rattle.std.proofs.Math.ListN.{length, get_or}
use Rattle.bits.specs.Choice.{pick}
use Rattle.bits.specs.ChoiceLaws.{pick_true, and_both, never_both}
use Rattle.bits.specs.Lists.{tabulate, keep_if}
use Rattle.bits.specs.ListsLaws.{keep_append}
use Rattle.x86defs.specs.declared.CpuidFunction.{CpuidFunction}
use Rattle.x86defs.specs.declared.CpuidResult.{CpuidResult}
use Rattle.x86defs.specs.Functions.{function, cpuid_result, same_function, ExtendedStateEnumeration}
use Rattle.pages.specs.Layout.{word_at, Entry, entry_at, count_of, pages_in, bad_length, counts_fit, most_entries}
use Rattle.pages.specs.Entries.{on_page, on_pages, entries, counts, counted}
use Rattle.masking.specs.Kept.{place_of, places, leaf_at}
use Rattle.masking.specs.KeptLaws.{entry_belongs}
use Rattle.table.specs.Rows.{Row, row, vacant}
use Rattle.collect.specs.FirstEntries.{first_at}
use Rattle.kvm_list.specs.Words.{bytes_of_words, low_word}
use Rattle.kvm_list.specs.WordsLaws.{cut_small, length_bytes, bytes_append, word_bytes}
use Rattle.kvm_list.specs.Format.{ListRow}
use Rattle.kvm_list.specs.FormatLaws.{cut_row}
use Rattle.kvm_import.specs.ListChecks.{is_extended_state, rows_on0, rows_on1}
use Rattle.kvm_import.specs.ListPages.{entry_words, entries_words, page_words, pages_of}
use Rattle.kvm_import.proofs.PagesLaws.{length_page}
use Rattle.round_trip.specs.Reads.{LeafRow, of_row, of_entry}

abbrev from_words : (ℕ → ℕ) → LeafRow
from_words f = record { leaf = f 0; index = f 1; registers = cpuid_result (f 6) (f 7) (f 8) (f 9) }

abbrev pub place_of_row : LeafRow → ℕ
place_of_row b = place_of (function b.leaf) b.index

unfoldable pub first_row : ℕ → List LeafRow → Row
first_row i [] = vacant
first_row i (b ∷ bs) = pick (eqb (place_of_row b) i) (row b.registers) (first_row i bs)

first_entry : (i : ℕ) (es : List Entry) → first_at i es ≡ first_row i (map of_entry es)
unfolding first_at first_row
first_entry i [] = refl
first_entry i (e ∷ es) = ap (pick (eqb (place_of e.leaf e.subleaf) i) (row e.registers)) (first_entry i es)

-- rows of 32-bit words
abbrev pub AllFit : List ListRow → Type 0
AllFit [] = Unit
AllFit (r ∷ rs) = (cut_row r ≡ r) × AllFit rs

pub fit_kept : (f : ListRow → Bool) (rs : List ListRow) → AllFit rs → AllFit (keep_if f rs)
unfolding keep_if
fit_kept f [] h = tt
fit_kept f (r ∷ rs) h = go (f r) (fit_kept f rs h.1)
  where
    go : (b : Bool) → AllFit (keep_if f rs) → AllFit (pick b (r ∷ keep_if f rs) (keep_if f rs))
    go true g = (h.0, g)
    go false g = g

-- ---- lists

map_append : {A B : Type 0} (f : A → B) (xs ys : List A) → map f (xs ++ ys) ≡ map f xs ++ map f ys
map_append f [] ys = refl
map_append f (x ∷ xs) ys = ap (f x ∷◌) (map_append f xs ys)

-- ---- the entries of one page

-- the words of the entries after the first
pub words_past : (r : ListRow) (rs : List ListRow) (post : List ℕ) (q j : ℕ)
    → get_or (entry_words r ++ (entries_words rs ++ post)) (12 * suc q + j) 0 ≡ get_or (entries_words rs ++ post) (12 * q + j) 0
words_past r rs post q j =
    let p : 12 * suc q + j ≡ 12 + (12 * q + j) = omega arith in
    ap (λ (n : ℕ). get_or (entry_words r ++ (entries_words rs ++ post)) n 0) p ∙ get_or-append-add (entry_words r) (entries_words rs ++ post) (12 * q + j) 0

page_read : (rs : List ListRow) (post : List ℕ) → AllFit rs
    → tabulate (length rs) (λ q. from_words (λ j. low_word (get_or (entries_words rs ++ post) (12 * q + j) 0))) ≡ map of_row rs
unfolding tabulate entries_words
page_read [] post h = refl
page_read (r ∷ rs) post h =
    ap₂ ◌∷◌ (ap of_row h.0)
    (ap (tabulate (length rs)) (fun_ext (λ q. ap from_words (fun_ext (λ j. ap low_word (words_past r rs post q j))))) ∙ page_read rs post h.1)

page_entries : (s : List ℕ) (p q n : ℕ) → map of_entry (on_page s p q n) ≡ tabulate n (λ j. of_entry (entry_at s p (q + j)))
unfolding on_page tabulate
page_entries s p q zero = refl
page_entries s p q (suc n) =
    let z : q ≡ q + 0 = omega arith in
    ap₂ ◌∷◌ (ap (λ (k : ℕ). of_entry (entry_at s p k)) z)
    (page_entries s p (suc q) n
    ∙ ap (tabulate n) (fun_ext (λ j. let z : suc q + j ≡ q + suc j = omega arith in ap (λ (k : ℕ). of_entry (entry_at s p k)) z)))

-- whether it counts on page p
abbrev counts_on : ℕ → LeafRow → Bool
counts_on p b = not (same_function (function b.leaf) ExtendedStateEnumeration) || eqb p 1

counted_page : (s : List ℕ) (p q n : ℕ) → map of_entry (keep_if counts (on_page s p q n)) ≡ keep_if (counts_on p) (map of_entry (on_page s p q n))
unfolding on_page keep_if counts entry_at
counted_page s p q zero = refl
counted_page s p q (suc n) = go (counts_on p (of_entry (entry_at s p q))) (counted_page s p (suc q) n)
  where
    go : (b : Bool) → map of_entry (keep_if counts (on_page s p (suc q) n)) ≡ keep_if (counts_on p) (map of_entry (on_page s p (suc q) n))
        → map of_entry (pick b (entry_at s p q ∷ keep_if counts (on_page s p (suc q) n)) (keep_if counts (on_page s p (suc q) n)))
        ≡ pick b (of_entry (entry_at s p q) ∷ keep_if (counts_on p) (map of_entry (on_page s p (suc q) n))) (keep_if (counts_on p) (map of_entry
        (on_page s p (suc q) n)))
    go true e = ap (of_entry (entry_at s p q) ∷◌) e
    go false e = e

-- all that were sorted onto a page count there
keep_all : (f : ListRow → Bool) (g : LeafRow → Bool) → ((r : ListRow) → f r ≡ true → g (of_row r) ≡ true) → (rs : List ListRow)
    → keep_if g (map of_row (keep_if f rs)) ≡ map of_row (keep_if f rs)
unfolding keep_if
keep_all f g h [] = refl
keep_all f g h (r ∷ rs) = go (f r) refl (keep_all f g h rs)
  where
    go : (b : Bool) → f r ≡ b → keep_if g (map of_row (keep_if f rs)) ≡ map of_row (keep_if f rs)
        → keep_if g (map of_row (pick b (r ∷ keep_if f rs) (keep_if f rs))) ≡ map of_row (pick b (r ∷ keep_if f rs) (keep_if f rs))
    go true e ih = pick_true _ _ (h r e) ∙ ap (of_row r ∷◌) ih
    go false e ih = ih

or_true : (b : Bool) → (b || true) ≡ true
or_true true = refl
or_true false = refl

or_left : (b : Bool) → b ≡ true → (b || false) ≡ true
or_left true e = refl
or_left false e = e

-- ---- two pages

-- the words of an entry
entry_words_lem : (s : List ℕ) (p q : ℕ) → of_entry (entry_at s p q) ≡ from_words (λ j. word_at s (4096 * p + 16 + 48 * q + 4 * j))
unfolding entry_at
entry_words_lem s p q =
    let o : ℕ = 4096 * p + 16 + 48 * q in
    let z : o ≡ o + 4 * 0 = omega arith in
    λ k. record {
      leaf = word_at s (z k);
      index = word_at s (o + 4);
      registers = cpuid_result (word_at s (o + 24)) (word_at s (o + 28)) (word_at s (o + 32)) (word_at s (o + 36));
    }

-- the entries of page p, by their words
page_words_lem : (s : List ℕ) (p n : ℕ) (f : ℕ → ℕ → ℕ) → ((q j : ℕ) → word_at s (4096 * p + 16 + 48 * q + 4 * j) ≡ f q j)
    → map of_entry (on_page s p 0 n) ≡ tabulate n (λ q. from_words (f q))
page_words_lem s p n f e =
    page_entries s p 0 n
    ∙ ap (tabulate n) (fun_ext (λ q. ap (λ (k : ℕ). of_entry (entry_at s p k)) (zero-add q) ∙ entry_words_lem s p q ∙ ap from_words (fun_ext (e q))))

words_page : (rs : List ListRow) (k : ℕ) → get_or (page_words rs) (suc (suc (suc (suc k)))) 0 ≡ get_or (entries_words rs ++ replicate
    (1020 - 12 * length rs) 0) k 0
unfolding page_words
words_page rs k = refl

module _ (A B : List ListRow) (fitA : AllFit A) (fitB : AllFit B) (fewA : length A ≤ most_entries) (fewB : length B ≤ most_entries) where
  abbrev W : List ℕ
  W = page_words A ++ page_words B

  abbrev s : List ℕ
  s = bytes_of_words W

  words_1 : (k : ℕ) → get_or W (1024 + k) 0 ≡ get_or (page_words B) k 0
  words_1 k = ap (λ (n : ℕ). get_or W (n + k) 0) (sym (length_page A fewA)) ∙ get_or-append-add (page_words A) (page_words B) k 0

  words_0 : (k : ℕ) → get_or W (suc (suc (suc (suc k)))) 0 ≡ get_or (entries_words A ++ (replicate (1020 - 12 * length A) 0 ++ page_words B)) k 0
  unfolding page_words
  words_0 k = ap (λ (l : List ℕ). get_or l k 0) (append_assoc (entries_words A) (replicate (1020 - 12 * length A) 0) (page_words B))

  pub count_0 : count_of s 0 ≡ length A
  count_0 = word_bytes W 0 ∙ (unfold page_words in cut_small (length A) (omega arith))

  pub count_1 : count_of s 1 ≡ length B
  count_1 = word_bytes W 1024 ∙ ap low_word (words_1 0) ∙ (unfold page_words in cut_small (length B) (omega arith))

  pub length_s : length s ≡ 8192
  length_s = length_bytes W ∙ omega (arith, length-append (page_words A) (page_words B), length_page A fewA, length_page B fewB)

  abbrev pub words_after_a : List ℕ
  words_after_a = replicate (1020 - 12 * length A) 0 ++ page_words B

  abbrev pub words_after_b : List ℕ
  words_after_b = replicate (1020 - 12 * length B) 0

  -- word j of the entry at position q of each page
  pub word_0 : (q j : ℕ) → word_at s (4096 * 0 + 16 + 48 * q + 4 * j) ≡ low_word (get_or (entries_words A ++ words_after_a) (12 * q + j) 0)
  word_0 q j =
      let p : 4096 * 0 + 16 + 48 * q + 4 * j ≡ 4 * suc (suc (suc (suc (12 * q + j)))) = omega arith in
      ap (word_at s) p ∙ word_bytes W (suc (suc (suc (suc (12 * q + j))))) ∙ ap low_word (words_0 (12 * q + j))

  pub word_1 : (q j : ℕ) → word_at s (4096 * 1 + 16 + 48 * q + 4 * j) ≡ low_word (get_or (entries_words B ++ words_after_b) (12 * q + j) 0)
  word_1 q j =
      let p : 4096 * 1 + 16 + 48 * q + 4 * j ≡ 4 * (1024 + suc (suc (suc (suc (12 * q + j))))) = omega arith in
      ap (word_at s) p
      ∙ word_bytes W (1024 + suc (suc (suc (suc (12 * q + j)))))
      ∙ ap low_word (words_1 (suc (suc (suc (suc (12 * q + j))))) ∙ words_page B (12 * q + j))

  entries_0 : map of_entry (on_page s 0 0 (length A)) ≡ map of_row A
  entries_0 = page_words_lem s 0 (length A) _ word_0 ∙ page_read A words_after_a fitA

  entries_1 : map of_entry (on_page s 1 0 (length B)) ≡ map of_row B
  entries_1 = page_words_lem s 1 (length B) _ word_1 ∙ page_read B words_after_b fitB

  pub pages_in_lem : pages_in s ≡ 2
  pages_in_lem = ap (λ (n : ℕ). n / 4096) length_s

  pub good_length : bad_length s ≡ false
  unfolding bad_length
  good_length = rw length_s

  pub good_counts : counts_fit s ≡ true
  unfolding counts_fit
  good_counts = rw pages_in_lem (rw (count_0, count_1) (and_both (le-leb _ _ fewB) (and_both (le-leb _ _ fewA) refl)))

  all_entries : entries s ≡ on_page s 0 0 (length A) ++ (on_page s 1 0 (length B) ++ [])
  unfolding entries on_pages
  all_entries = rw pages_in_lem (rw (count_0, count_1) refl)

  pub counted_of_pages : keep_if (counts_on 0) (map of_row A) ≡ map of_row A → keep_if (counts_on 1) (map of_row B) ≡ map of_row B
      → map of_entry (counted s) ≡ map of_row A ++ map of_row B
  unfolding counted
  counted_of_pages p q =
      let X : List Entry = on_page s 0 0 (length A) in
      let Y : List Entry = on_page s 1 0 (length B) in
      ap (λ (es : List Entry). map of_entry (keep_if counts es)) (all_entries ∙ ap (X ++◌) (append-nil Y))
      ∙ ap (map of_entry) (keep_append counts X Y)
      ∙ map_append of_entry (keep_if counts X) (keep_if counts Y)
      ∙ ap₂ ◌++◌
      (counted_page s 0 0 (length A) ∙ ap (keep_if (counts_on 0)) entries_0 ∙ p)
      (counted_page s 1 0 (length B) ∙ ap (keep_if (counts_on 1)) entries_1 ∙ q)

-- ---- the first row of a place

first_append : (i : ℕ) (xs ys : List LeafRow) → first_row i (xs ++ ys) ≡ pick (first_row i xs).present (first_row i xs) (first_row i ys)
unfolding first_row
first_append i [] ys = refl
first_append i (x ∷ xs) ys = go (eqb (place_of_row x) i) (first_append i xs ys)
  where
    go : (b : Bool) → first_row i (xs ++ ys) ≡ pick (first_row i xs).present (first_row i xs) (first_row i ys)
        → pick b (row x.registers) (first_row i (xs ++ ys))
        ≡ pick (pick b (row x.registers) (first_row i xs)).present (pick b (row x.registers) (first_row i xs)) (first_row i ys)
    go true e = refl
    go false e = e

or_vacant : (i : ℕ) (xs : List LeafRow) → pick (first_row i xs).present (first_row i xs) vacant ≡ first_row i xs
unfolding first_row
or_vacant i [] = refl
or_vacant i (x ∷ xs) = go (eqb (place_of_row x) i) (or_vacant i xs)
  where
    go : (b : Bool) → pick (first_row i xs).present (first_row i xs) vacant ≡ first_row i xs
        → pick (pick b (row x.registers) (first_row i xs)).present (pick b (row x.registers) (first_row i xs)) vacant
        ≡ pick b (row x.registers) (first_row i xs)
    go true e = refl
    go false e = e

first_kept : (f : ListRow → Bool) (i : ℕ) → ((r : ListRow) → place_of_row (of_row r) ≡ i → f r ≡ true) → (rs : List ListRow)
    → first_row i (map of_row (keep_if f rs)) ≡ first_row i (map of_row rs)
unfolding keep_if first_row
first_kept f i h [] = refl
first_kept f i h (r ∷ rs) = go (f r) (eqb (place_of_row (of_row r)) i) refl refl (first_kept f i h rs)
  where
    go : (b p : Bool) → f r ≡ b → eqb (place_of_row (of_row r)) i ≡ p → first_row i (map of_row (keep_if f rs)) ≡ first_row i (map of_row rs)
        → first_row i (map of_row (pick b (r ∷ keep_if f rs) (keep_if f rs))) ≡ pick p (row r.registers) (first_row i (map of_row rs))
    go true p e q ih = rw q (ap (pick p (row r.registers)) ih)
    go false true e q ih = absurd (never_both (h r (eqb-true (place_of_row (of_row r)) i q)) e)
    go false false e q ih = ih

first_none : (f : ListRow → Bool) (i : ℕ) → ((r : ListRow) → place_of_row (of_row r) ≡ i → f r ≡ false) → (rs : List ListRow)
    → first_row i (map of_row (keep_if f rs)) ≡ vacant
unfolding keep_if first_row
first_none f i h [] = refl
first_none f i h (r ∷ rs) = go (f r) (eqb (place_of_row (of_row r)) i) refl refl (first_none f i h rs)
  where
    go : (b p : Bool) → f r ≡ b → eqb (place_of_row (of_row r)) i ≡ p → first_row i (map of_row (keep_if f rs)) ≡ vacant
        → first_row i (map of_row (pick b (r ∷ keep_if f rs) (keep_if f rs))) ≡ vacant
    go true true e q ih = absurd (never_both e (h r (eqb-true (place_of_row (of_row r)) i q)))
    go true false e q ih = rw q ih
    go false p e q ih = ih

-- a row that goes to place i has its leaf
page_of_place : (i : ℕ) → i < places → (r : ListRow) → place_of_row (of_row r) ≡ i → is_extended_state r ≡ same_function (leaf_at i) ExtendedStateEnumeration
page_of_place i l r p = ap (λ (f : CpuidFunction). same_function f ExtendedStateEnumeration) (sym (entry_belongs (function r.leaf)
    r.index i p l).leaf)

-- ---- the pages that reading gives

module _ (rs : List ListRow) (fit : AllFit rs) (few-0 : length (rows_on0 rs) ≤ most_entries) (few-1 : length (rows_on1 rs) ≤ most_entries) where
  pub fits_0 : AllFit (rows_on0 rs)
  unfolding rows_on0
  fits_0 = fit_kept (λ r. not (is_extended_state r)) rs fit

  pub fits_1 : AllFit (rows_on1 rs)
  unfolding rows_on1
  fits_1 = fit_kept is_extended_state rs fit

  pub whole : pages_of rs ≡ bytes_of_words (page_words (rows_on0 rs) ++ page_words (rows_on1 rs))
  unfolding pages_of
  whole = sym (bytes_append (page_words (rows_on0 rs)) (page_words (rows_on1 rs)))

  pub pages_length : bad_length (pages_of rs) ≡ false
  pages_length = rw whole (good_length (rows_on0 rs) (rows_on1 rs) fits_0 fits_1 few-0 few-1)

  pub pages_counts : counts_fit (pages_of rs) ≡ true
  pages_counts = rw whole (good_counts (rows_on0 rs) (rows_on1 rs) fits_0 fits_1 few-0 few-1)

  stand_0 : keep_if (counts_on 0) (map of_row (rows_on0 rs)) ≡ map of_row (rows_on0 rs)
  unfolding rows_on0
  stand_0 = keep_all (λ r. not (is_extended_state r)) (counts_on 0) (λ r e. or_left (not (is_extended_state r)) e) rs

  stand_1 : keep_if (counts_on 1) (map of_row (rows_on1 rs)) ≡ map of_row (rows_on1 rs)
  unfolding rows_on1
  stand_1 = keep_all is_extended_state (counts_on 1) (λ r e. or_true (not (is_extended_state r))) rs

  pub page_0 : map of_entry (on_page (pages_of rs) 0 0 (count_of (pages_of rs) 0)) ≡ map of_row (rows_on0 rs)
  page_0 =
      rw whole
      (ap (λ (n : ℕ). map of_entry (on_page (bytes_of_words (page_words (rows_on0 rs) ++ page_words (rows_on1 rs))) 0 0 n))
      (count_0 (rows_on0 rs) (rows_on1 rs) fits_0 fits_1 few-0 few-1)
      ∙ entries_0 (rows_on0 rs) (rows_on1 rs) fits_0 fits_1 few-0 few-1)

  pub page_1 : map of_entry (on_page (pages_of rs) 1 0 (count_of (pages_of rs) 1)) ≡ map of_row (rows_on1 rs)
  page_1 =
      rw whole
      (ap (λ (n : ℕ). map of_entry (on_page (bytes_of_words (page_words (rows_on0 rs) ++ page_words (rows_on1 rs))) 1 0 n))
      (count_1 (rows_on0 rs) (rows_on1 rs) fits_0 fits_1 few-0 few-1)
      ∙ entries_1 (rows_on0 rs) (rows_on1 rs) fits_0 fits_1 few-0 few-1)

  pub all_counted : map of_entry (counted (pages_of rs)) ≡ map of_row (rows_on0 rs) ++ map of_row (rows_on1 rs)
  all_counted = rw whole (counted_of_pages (rows_on0 rs) (rows_on1 rs) fits_0 fits_1 few-0 few-1 stand_0 stand_1)

  -- the first entry of a place is the first of the rows in list order: those of one place are all on one page
  pub pages_first : (i : ℕ) → i < places → first_at i (counted (pages_of rs)) ≡ first_row i (map of_row rs)
  unfolding rows_on0 rows_on1
  pages_first i l =
      first_entry i (counted (pages_of rs))
      ∙ ap (first_row i) all_counted
      ∙ first_append i (map of_row (rows_on0 rs)) (map of_row (rows_on1 rs))
      ∙ go (same_function (leaf_at i) ExtendedStateEnumeration) refl
    where
      go : (b : Bool) → same_function (leaf_at i) ExtendedStateEnumeration ≡ b
          → pick (first_row i (map of_row (rows_on0 rs))).present (first_row i (map of_row (rows_on0 rs))) (first_row i (map of_row (rows_on1 rs)))
          ≡ first_row i (map of_row rs)
      go true e =
          let h : (r : ListRow) → place_of_row (of_row r) ≡ i → is_extended_state r ≡ true = λ r p. page_of_place i l r p ∙ e in
          rw (first_none (λ r. not (is_extended_state r)) i (λ r p. ap not (h r p)) rs) (first_kept is_extended_state i h rs)
      go false e =
          let h : (r : ListRow) → place_of_row (of_row r) ≡ i → is_extended_state r ≡ false = λ r p. page_of_place i l r p ∙ e in
          rw (first_kept (λ r. not (is_extended_state r)) i (λ r p. ap not (h r p)) rs, first_none is_extended_state i h rs) (or_vacant i (map of_row rs))
