-- The walk visits every entry below its page's count, each once, in order.
use Rattle.std.specs.Prelude.{◌≡◌, refl, Bool, true, false, List, [], ◌∷◌, ◌++◌, ◌≢◌, ℕ, zero, suc, ◌+◌, ◌-◌, ◌≤◌, ◌<◌, ltb, length}
use Rattle.std.proofs.Common.{sym, ap, ◌∙◌, add-one, arith}
use borrow.Author.Tests.{lt-ltb, le-ltb, ltb-true, ltb-false, eq-eqb, ne_eqb, eqb-true, eqb-false}
use Rattle.bits.specs.Choice.{pick}
use Rattle.bits.specs.ChoiceLaws.{and_right}
use Rattle.bits.specs.Search.{Failing, lowest}
use Rattle.bits.specs.Search.Failing.{at, none}
use Rattle.bits.specs.SearchLaws.{lowest_at}
use Rattle.pages.specs.declared.CpuidPageIndex.{CpuidPageIndex}
use Rattle.pages.specs.Layout.{entry_at, pages_in, count_of}
use Rattle.pages.specs.Entries.{on_page, on_pages, entries}
use Rattle.pages.specs.Walk.{index, is_entry, is_empty, page_start, first_from, next_valid, first_index, incremented, rest}

-- ---- the first entry from page p on

pub first_from_end : (s : List ℕ) (p : ℕ) → pages_in s ≤ p → first_from s p ≡ index (pages_in s) 0
unfolding first_from lowest
first_from_end s p h = let z : pages_in s - p ≡ 0 = omega arith in rw z

pub first_from_here : (s : List ℕ) (p : ℕ) → p < pages_in s → ¬ (count_of s p ≡ 0) → first_from s p ≡ index p 0
unfolding first_from lowest
first_from_here s p h f = let z : pages_in s - p ≡ suc (pages_in s - (p + 1)) = omega arith in rw (z, lowest, ne_eqb _ 0 f)

pub first_from_later : (s : List ℕ) (p : ℕ) → p < pages_in s → count_of s p ≡ 0 → first_from s p ≡ first_from s (p + 1)
unfolding first_from lowest
first_from_later s p h e = let z : pages_in s - p ≡ suc (pages_in s - (p + 1)) = omega arith in rw (z, lowest, eq-eqb _ 0 e, add-one)

-- ---- the next entry at or after position q of page p, and the one after it

module _ (s : List ℕ) (p q : ℕ) where
  pub next_here : p < pages_in s → q < count_of s p → next_valid s (index p q) ≡ index p q
  unfolding next_valid
  next_here h l = rw (lt-ltb _ _ h, lt-ltb _ _ l)

  pub next_later : p < pages_in s → count_of s p ≤ q → next_valid s (index p q) ≡ first_from s (p + 1)
  unfolding next_valid
  next_later h l = rw (lt-ltb _ _ h, le-ltb _ _ l)

  pub next_end : pages_in s ≤ p → next_valid s (index p q) ≡ index (pages_in s) 0
  unfolding next_valid
  next_end h = rw (le-ltb _ _ h) (first_from_end s (p + 1) (omega arith))

  pub incremented_inside : p < pages_in s → incremented s (index p q) ≡ next_valid s (index p (q + 1))
  unfolding incremented
  incremented_inside h = rw (lt-ltb _ _ h)

  pub incremented_end : pages_in s ≤ p → incremented s (index p q) ≡ index p q
  unfolding incremented
  incremented_end h = rw (le-ltb _ _ h)

pub incremented_later : (s : List ℕ) (p q : ℕ) → p < pages_in s → count_of s p ≤ q → incremented s (index p q) ≡ next_valid s (index p q)
incremented_later s p q h l = incremented_inside s p q h ∙ next_later s p (q + 1) h (omega arith) ∙ sym (next_later s p q h l)

-- ---- the entries from an index on

rest_inside : (s : List ℕ) (p q : ℕ) → p < pages_in s
    → rest s (index p q) ≡ on_page s p q (count_of s p - q) ++ on_pages s (p + 1) (pages_in s - (p + 1))
unfolding rest
rest_inside s p q h = rw (lt-ltb _ _ h)

pub rest_end : (s : List ℕ) (i : CpuidPageIndex) → pages_in s ≤ i.page_index → rest s i ≡ []
unfolding rest
rest_end s i h = rw (le-ltb _ _ h)

rest_page : (s : List ℕ) (p n : ℕ) → p + n ≡ pages_in s → rest s (index p 0) ≡ on_pages s p n
unfolding on_pages
rest_page s p zero e = rest_end s (index p 0) (omega arith)
rest_page s p (suc n) e =
    let d : pages_in s - (p + 1) ≡ n = omega arith in
    let z : count_of s p - 0 ≡ count_of s p = omega arith in
    rest_inside s p 0 (omega arith) ∙ rw (d, z, add-one p)

rest_first_from : (s : List ℕ) (p n : ℕ) → p + n ≡ pages_in s → rest s (first_from s p) ≡ on_pages s p n
unfolding on_pages on_page
rest_first_from s p zero e = ap (rest s) (first_from_end s p (omega arith)) ∙ rest_end s _ (omega arith)
rest_first_from s p (suc n) e = go (rest_first_from s (p + 1) n (omega arith)) (is_empty s p) refl
  where
    go : rest s (first_from s (p + 1)) ≡ on_pages s (p + 1) n → (b : Bool) → is_empty s p ≡ b → rest s (first_from s p) ≡ on_pages s p (suc n)
    go ih true z =
        let h : count_of s p ≡ 0 = eqb-true _ 0 z in
        ap (rest s) (first_from_later s p (omega arith) h) ∙ ih ∙ rw (h, add-one p)
    go ih false z = ap (rest s) (first_from_here s p (omega arith) (eqb-false _ 0 z)) ∙ rest_page s p (suc n) e

-- the next entry loses nothing
rest_next : (s : List ℕ) (p q : ℕ) → rest s (next_valid s (index p q)) ≡ rest s (index p q)
unfolding on_page
rest_next s p q = go (ltb p (pages_in s)) (ltb q (count_of s p)) refl refl
  where
    go : (a b : Bool) → ltb p (pages_in s) ≡ a → ltb q (count_of s p) ≡ b → rest s (next_valid s (index p q)) ≡ rest s (index p q)
    go true true e f = ap (rest s) (next_here s p q (ltb-true _ _ e) (ltb-true _ _ f))
    go true false e f =
        let h : p < pages_in s = ltb-true _ _ e in
        let l : count_of s p ≤ q = ltb-false _ _ f in
        let z : count_of s p - q ≡ 0 = omega arith in
        ap (rest s) (next_later s p q h l)
        ∙ rest_first_from s (p + 1) (pages_in s - (p + 1)) (omega arith)
        ∙ sym (rest_inside s p q h ∙ rw z)
    go false b e f =
        let h : pages_in s ≤ p = ltb-false _ _ e in
        ap (rest s) (next_end s p q h) ∙ rest_end s _ (omega arith) ∙ sym (rest_end s (index p q) h)

-- an entry, and what follows it
rest_step : (s : List ℕ) (p q : ℕ) → p < pages_in s → q < count_of s p → rest s (index p q) ≡ entry_at s p q ∷ rest s (incremented s (index p q))
unfolding on_page
rest_step s p q h l =
    let z : count_of s p - q ≡ suc (count_of s p - (q + 1)) = omega arith in
    let e : rest s (incremented s (index p q)) ≡ rest s (index p (q + 1)) = ap (rest s) (incremented_inside s p q h) ∙ rest_next s p (q + 1) in
    rw (rest_inside s p q h, e, rest_inside s p (q + 1) h, z, on_page, add-one q)

-- ---- an index that the walk comes to

-- where it stands on a page, an entry stands there
pub record Valid (s : List ℕ) (i : CpuidPageIndex) : Type 0 where
  pub below : i.page_index < pages_in s → i.function_index < count_of s i.page_index

first_from_valid : (s : List ℕ) (p : ℕ) → Valid s (first_from s p)
unfolding first_from
first_from_valid s p = go (lowest (is_empty s) p (pages_in s - p)) refl
  where
    go : (f : Failing) → lowest (is_empty s) p (pages_in s - p) ≡ f → Valid s (page_start s f)
    go (at j) e =
        let z : ¬ (count_of s j ≡ 0) = eqb-false _ 0 (lowest_at (is_empty s) p (pages_in s - p) j e).fails in
        record { below = λ h. omega arith }
    go none e = record { below = λ h. absurd (omega arith) }

-- the page only rises
first_from_rises : (s : List ℕ) (p : ℕ) → p ≤ pages_in s → p ≤ (first_from s p).page_index
unfolding first_from
first_from_rises s p h = go (lowest (is_empty s) p (pages_in s - p)) refl
  where
    go : (f : Failing) → lowest (is_empty s) p (pages_in s - p) ≡ f → p ≤ (page_start s f).page_index
    go (at j) e = (lowest_at (is_empty s) p (pages_in s - p) j e).from
    go none e = h

incremented_rises : (s : List ℕ) (p q : ℕ) → p < pages_in s → p ≤ (incremented s (index p q)).page_index
incremented_rises s p q h = go (ltb (q + 1) (count_of s p)) refl
  where
    go : (b : Bool) → ltb (q + 1) (count_of s p) ≡ b → p ≤ (incremented s (index p q)).page_index
    go true e = rw (incremented_inside s p q h, next_here s p (q + 1) h (ltb-true _ _ e)) (omega arith)
    go false e = rw (incremented_inside s p q h, next_later s p (q + 1) h (ltb-false _ _ e)) (omega (arith, first_from_rises s (p + 1) (omega arith)))

-- where it comes to is the start of a page
first_from_start : (s : List ℕ) (p : ℕ) → (first_from s p).function_index ≡ 0
unfolding first_from
first_from_start s p = go (lowest (is_empty s) p (pages_in s - p))
  where
    go : (f : Failing) → (page_start s f).function_index ≡ 0
    go (at j) = refl
    go none = refl

-- a step that comes to position 0 has left the page, and any other has not
incremented_leaves : (s : List ℕ) (p q : ℕ) → p < pages_in s → (incremented s (index p q)).function_index ≡ 0 → p < (incremented s (index p q)).page_index
incremented_leaves s p q h = go (ltb (q + 1) (count_of s p)) refl
  where
    go : (b : Bool) → ltb (q + 1) (count_of s p) ≡ b → (incremented s (index p q)).function_index ≡ 0 → p < (incremented s (index p q)).page_index
    go true e z =
        let y : q + 1 ≡ 0 = rw (incremented_inside s p q h, next_here s p (q + 1) h (ltb-true _ _ e)) at z in
        absurd (omega arith)
    go false e z = rw (incremented_inside s p q h, next_later s p (q + 1) h (ltb-false _ _ e)) (omega (arith, first_from_rises s (p + 1) (omega arith)))

incremented_stays : (s : List ℕ) (p q : ℕ) → p < pages_in s → (incremented s (index p q)).function_index ≢ 0 → (incremented s (index p q)).page_index ≡ p
incremented_stays s p q h = go (ltb (q + 1) (count_of s p)) refl
  where
    go : (b : Bool) → ltb (q + 1) (count_of s p) ≡ b → (incremented s (index p q)).function_index ≢ 0 → (incremented s (index p q)).page_index ≡ p
    go true e z = rw (incremented_inside s p q h, next_here s p (q + 1) h (ltb-true _ _ e))
    go false e z =
        absurd (z (rw (incremented_inside s p q h, next_later s p (q + 1) h (ltb-false _ _ e)) (first_from_start s (p + 1))))

pub next_valid_lem : (s : List ℕ) (i : CpuidPageIndex) → Valid s (next_valid s i)
unfolding next_valid
next_valid_lem s i = go (is_entry s i) refl
  where
    go : (b : Bool) → is_entry s i ≡ b → Valid s (pick b i (first_from s (i.page_index + 1)))
    go true e = record { below = λ h. ltb-true _ _ (and_right (ltb i.page_index (pages_in s)) _ e) }
    go false e = first_from_valid s (i.page_index + 1)

pub first_valid : (s : List ℕ) → Valid s (first_index s)
first_valid s = next_valid_lem s _

pub incremented_valid : (s : List ℕ) (i : CpuidPageIndex) → Valid s (incremented s i)
unfolding incremented
incremented_valid s i = go (ltb i.page_index (pages_in s)) refl
  where
    go : (b : Bool) → ltb i.page_index (pages_in s) ≡ b
        → Valid s (pick b (next_valid s (index i.page_index (i.function_index + 1))) i)
    go true e = next_valid_lem s _
    go false e = record { below = λ h. absurd (omega (arith, ltb-false i.page_index (pages_in s) e)) }

-- ---- a loop over the entries

-- it starts with all of them
pub rest_first : (s : List ℕ) → rest s (first_index s) ≡ entries s
unfolding entries
rest_first s = rest_next s 0 0 ∙ rest_page s 0 (pages_in s) (omega arith)

-- and a turn takes the first of those that are left
pub record Turn (s : List ℕ) (i : CpuidPageIndex) : Type 0 where
  pub below : i.function_index < count_of s i.page_index
  pub taken : rest s i ≡ entry_at s i.page_index i.function_index ∷ rest s (incremented s i)
  pub falls : length (rest s (incremented s i)) < length (rest s i)
  pub valid : Valid s (incremented s i)
  pub rises : i.page_index ≤ (incremented s i).page_index
  pub leaves : (incremented s i).function_index ≡ 0 → i.page_index < (incremented s i).page_index
  pub stays : (incremented s i).function_index ≢ 0 → (incremented s i).page_index ≡ i.page_index

pub turn : (s : List ℕ) (i : CpuidPageIndex) → Valid s i → i.page_index < pages_in s → Turn s i
turn s i v h =
    let p : ℕ = i.page_index in
    let q : ℕ = i.function_index in
    let l : q < count_of s p = v.below h in
    let e : rest s i ≡ entry_at s p q ∷ rest s (incremented s i) = rest_step s p q h l in
    record {
      below = l;
      taken = e;
      falls = omega (arith, ap length e);
      valid = incremented_valid s i;
      rises = incremented_rises s p q h;
      leaves = incremented_leaves s p q h;
      stays = incremented_stays s p q h;
    }
