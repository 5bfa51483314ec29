-- Where the first entry of a place stands, and the row that it gives: the two are of one entry.
use Rattle.std.specs.Prelude.{◌≡◌, refl, Bool, true, false, List, [], ◌∷◌, ◌++◌, ℕ, zero, suc, ◌+◌, ◌≤◌, ◌<◌, eqb}
use Rattle.std.proofs.Common.{ap, subst, arith, eqb-true}
use Rattle.std.proofs.lemmas.Bool.{eqb-false}
use Rattle.bits.specs.Choice.{pick}
use Rattle.bits.specs.ChoiceLaws.{never_both}
use Rattle.bits.specs.Lists.{keep_if}
use Rattle.pages.specs.Layout.{Entry, entry_at, pages_in, count_of}
use Rattle.pages.specs.Entries.{on_page, on_pages, entries, counts, counted}
use Rattle.table.specs.Rows.{row}
use Rattle.memory.specs.Origin.Origin.{neither, entry}
use Rattle.collect.specs.FirstEntries.{place_of_entry, first_at}
use Rattle.collect.specs.FirstEntryOrigin.{stands_at}
use Rattle.rise.specs.Located.{Elsewhere}

-- the first entry of place i in a list, with those before and after it
pub record First (i : ℕ) (es : List Entry) : Type 0 where
  pub found : Entry
  pub before : List Entry
  pub after : List Entry
  pub among : es ≡ before ++ found ∷ after
  pub place : place_of_entry found ≡ i
  pub elsewhere : Elsewhere i before
  pub row_of : first_at i es ≡ row found.registers
  pub stands : stands_at i es ≡ entry found.page found.position

pub first_of : (i : ℕ) (es : List Entry) → (first_at i es).present ≡ true → First i es
unfolding first_at stands_at
first_of i [] p = absurd (never_both p refl)
first_of i (e ∷ es) p = go (eqb (place_of_entry e) i) refl p (first_of i es)
  where
    go : (b : Bool) → eqb (place_of_entry e) i ≡ b → (pick b (row e.registers) (first_at i es)).present ≡ true → ((first_at i es).present ≡ true → First i es)
        → First i (e ∷ es)
    go true q h ih = record {
      found = e;
      before = [];
      after = es;
      among = refl;
      place = eqb-true (place_of_entry e) i q;
      elsewhere = tt;
      row_of = rw q;
      stands = rw q;
    }
    go false q h ih =
        let f : First i es = ih h in
        record {
          found = f.found;
          before = e ∷ f.before;
          after = f.after;
          among = ap (e ∷◌) f.among;
          place = f.place;
          elsewhere = (eqb-false (place_of_entry e) i q, f.elsewhere);
          row_of = rw q f.row_of;
          stands = rw q f.stands;
        }

-- no first entry, no place where it stands
pub none_stands : (i : ℕ) (es : List Entry) → (first_at i es).present ≡ false → stands_at i es ≡ neither
unfolding first_at stands_at
none_stands i [] p = refl
none_stands i (e ∷ es) p = go (eqb (place_of_entry e) i) p (none_stands i es)
  where
    go : (b : Bool) → (pick b (row e.registers) (first_at i es)).present ≡ false → ((first_at i es).present ≡ false → stands_at i es ≡ neither)
        → pick b (entry e.page e.position) (stands_at i es) ≡ neither
    go true h ih = absurd (never_both refl h)
    go false h ih = ih h

-- what comes after a first entry does not move it
pub stands_begins : (i : ℕ) (xs ys : List Entry) → (first_at i xs).present ≡ true → stands_at i (xs ++ ys) ≡ stands_at i xs
unfolding first_at stands_at
stands_begins i [] ys e = absurd (never_both e refl)
stands_begins i (x ∷ xs) ys e = go (eqb (place_of_entry x) i) (stands_begins i xs ys) e
  where
    go : (b : Bool) → ((first_at i xs).present ≡ true → stands_at i (xs ++ ys) ≡ stands_at i xs)
        → (pick b (row x.registers) (first_at i xs)).present ≡ true
        → pick b (entry x.page x.position) (stands_at i (xs ++ ys)) ≡ pick b (entry x.page x.position) (stands_at i xs)
    go true ih e = refl
    go false ih e = ih e

-- ---- every counted entry is the one that stands where it says

pub record Stands (s : List ℕ) (e : Entry) : Type 0 where
  pub page : e.page < pages_in s
  pub position : e.position < count_of s e.page
  pub itself : e ≡ entry_at s e.page e.position

abbrev All : List ℕ → List Entry → Type 0
All s [] = Unit
All s (e ∷ es) = Stands s e × All s es

all_append : (s : List ℕ) (xs ys : List Entry) → All s xs → All s ys → All s (xs ++ ys)
all_append s [] ys p q = q
all_append s (x ∷ xs) ys p q = (p.0, all_append s xs ys p.1 q)

all_kept : (s : List ℕ) (f : Entry → Bool) (xs : List Entry) → All s xs → All s (keep_if f xs)
unfolding keep_if
all_kept s f [] p = tt
all_kept s f (x ∷ xs) p = go (f x) (all_kept s f xs p.1)
  where
    go : (b : Bool) → All s (keep_if f xs) → All s (pick b (x ∷ keep_if f xs) (keep_if f xs))
    go true q = (p.0, q)
    go false q = q

all_middle : (s : List ℕ) (xs : List Entry) (e : Entry) (ys : List Entry) → All s (xs ++ e ∷ ys) → Stands s e
all_middle s [] e ys p = p.0
all_middle s (x ∷ xs) e ys p = all_middle s xs e ys p.1

on_page_lem : (s : List ℕ) (p q n : ℕ) → p < pages_in s → q + n ≤ count_of s p → All s (on_page s p q n)
unfolding on_page entry_at
on_page_lem s p q zero h l = tt
on_page_lem s p q (suc n) h l = (record { page = h; position = omega arith; itself = refl }, on_page_lem s p (suc q) n h (omega arith))

on_pages_lem : (s : List ℕ) (p n : ℕ) → p + n ≤ pages_in s → All s (on_pages s p n)
unfolding on_pages
on_pages_lem s p zero h = tt
on_pages_lem s p (suc n) h = all_append s (on_page s p 0 (count_of s p)) (on_pages s (suc p) n) (on_page_lem s p 0 (count_of s p) (omega arith) (omega arith)) (on_pages_lem s (suc p) n (omega arith))

pub counted_stands : (s : List ℕ) (xs : List Entry) (e : Entry) (ys : List Entry) → counted s ≡ xs ++ e ∷ ys → Stands s e
unfolding counted entries
counted_stands s xs e ys q = all_middle s xs e ys (subst (All s) q (all_kept s counts _ (on_pages_lem s 0 (pages_in s) (omega arith))))
