-- A Dh entry counts on page 1 alone. So a single page, page 0, leaves every D subleaf without a row, and D.0 is required.
use Rattle.std.specs.Prelude.{◌≡◌, Bool, true, false, eqb, length}
use Rattle.std.proofs.Math.Path.{refl}
use Rattle.std.proofs.Common.{sym, ap, ◌∙◌, lit<, eqb-true}
use mathlib.Core.List.{List, ◌∷◌, append-nil}
use Prim.Native.Nat.{ℕ, zero, suc, ◌<◌}
use Rattle.bits.specs.Choice.{pick}
use Rattle.bits.specs.ChoiceLaws.{never_both}
use Rattle.bits.specs.Lists.{keep_if}
use Rattle.x86defs.specs.Functions.{ExtendedStateEnumeration}
use Rattle.pages.specs.Layout.{page_size, count_of, Entry, entry_at}
use Rattle.pages.specs.Entries.{on_page, on_pages, entries, counts, counted}
use Rattle.masking.specs.Kept.{kept_leaves, places, place_of, slot, leaf_at}
use Rattle.masking.specs.KeptLaws.{entry_belongs}
use Rattle.masking.specs.Place
use Rattle.checks.specs.Required.{required_at, place_required}
use Rattle.checks.specs.ChecksLaws.{AllPass, required_present}
use Rattle.collect.specs.FirstEntriesLaws.{row_of_place_lem}
use Rattle.collect.specs.FirstEntries.{place_of_entry, first_at, rows_of}

-- an entry off page 1 that goes to a D subleaf does not count
off_page_1 : (e : Entry) (i : ℕ) → eqb e.page 1 ≡ false → place_of_entry e ≡ i → i < places → leaf_at i ≡ ExtendedStateEnumeration
    → counts e ≡ false
unfolding counts
off_page_1 e i off place h leaf = rw (sym (entry_belongs e.leaf e.subleaf i place h).leaf ∙ leaf, off)

module _ (s : List ℕ) (p i : ℕ) (off : eqb p 1 ≡ false) (h : i < places) (leaf : leaf_at i ≡ ExtendedStateEnumeration) where
  first_absent : (q n : ℕ) → (first_at i (keep_if counts (on_page s p q n))).present ≡ false
  unfolding first_at keep_if on_page entry_at
  first_absent q zero = refl
  first_absent q (suc n) = go (first_absent (suc q) n) (counts (entry_at s p q)) refl (eqb (place_of_entry (entry_at s p q)) i) refl
    where
      rest : List Entry
      rest = keep_if counts (on_page s p (suc q) n)

      go : (first_at i rest).present ≡ false → (b : Bool) → counts (entry_at s p q) ≡ b → (c : Bool) → eqb (place_of_entry (entry_at s p q)) i ≡ c
          → (first_at i (pick b (entry_at s p q ∷ rest) rest)).present ≡ false
      go ih true e true f = absurd (never_both e (off_page_1 (entry_at s p q) i off (eqb-true _ _ f) h leaf))
      go ih true e false f = rw f ih
      go ih false e c f = ih

-- a single page is page 0
module _ (avic : Bool) (s : List ℕ) (single : length s ≡ page_size) where
  counted_on_page_0 : counted s ≡ keep_if counts (on_page s 0 0 (count_of s 0))
  unfolding counted entries on_pages
  counted_on_page_0 = rw single (ap (keep_if counts) (append-nil (on_page s 0 0 (count_of s 0))))

  row_absent : (i : ℕ) → i < places → leaf_at i ≡ ExtendedStateEnumeration → (rows_of avic s i).present ≡ false
  row_absent i h leaf = rw (row_of_place_lem avic s i h, counted_on_page_0, first_absent s 0 i refl h leaf 0 (count_of s 0))

  -- D.0 stands at position 13 of the required leaves
  pub single_refused : AllPass (rows_of avic s) → ⊥
  unfolding place_required required_at place_of slot kept_leaves
  single_refused pass =
      never_both (required_present (rows_of avic s) pass.required 13 (lit< tt)) (row_absent (Place.extended_state 0) (lit< tt) refl)
