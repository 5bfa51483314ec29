-- What a flip does to the 88 rows. One in an entry that is not the first counted entry of its place leaves them as they are; one in a first entry
-- gives its row the masked flipped registers, and leaves all others.
use Rattle.std.specs.Prelude.{◌≡◌, Bool, List, [], ◌∷◌, ◌++◌, ℕ, ◌≤◌, ◌<◌}
use Rattle.std.proofs.Math.Path.{refl, ap, fun_ext}
use Rattle.std.proofs.Common.{sym, ◌∙◌}
use Rattle.std.proofs.Math.Bool.{true, false}
use Rattle.std.proofs.Math.Dec.{eqb, ltb}
use borrow.Author.Tests.{eqb-true, eqb-false, eq-eqb, ltb-true, ltb-false}
use Rattle.bits.specs.Choice.{pick}
use Rattle.bits.specs.ChoiceLaws.{pick_true, pick_false}
use Rattle.pages.specs.Layout.{Entry, entry_at, counts_fit}
use Rattle.pages.specs.Entries.{entries, counts, counted}
use Rattle.masking.specs.Kept.{places}
use Rattle.table.specs.Rows.{Row, row, vacant}
use Rattle.collect.specs.FirstEntries.{masked_at, mask_row, rows_of}
use Rattle.collect.specs.FirstEntriesLaws.{row_of_place_lem, row_beyond}
use Rattle.collect.specs.Collect.{stored_at, first_among}
use Rattle.collect.specs.CollectLaws.{first_none, first_cons}
use Rattle.nearest.specs.Flips.{flip, flipped}
use Rattle.nearest.specs.OneBit.{one_bit, xor_result, flip_entry}
use Rattle.nearest.specs.FlippedEntryLaws.{Inside}
use Rattle.nearest.specs.FlippedListLaws.{flip_among}
use Rattle.nearest.specs.WithRow.{with_row}

pub first_append : (i : ℕ) → i < places → (xs ys : List Entry) → first_among i (xs ++ ys) ≡ pick (first_among i xs).present (first_among i xs) (first_among i ys)
first_append i l [] ys = sym (rw (first_none i))
first_append i l (x ∷ xs) ys = first_cons i l x (xs ++ ys) ∙ rw (first_cons i l x xs, first_append i l xs ys) (go (eqb (stored_at x) i))
  where
    go : (b : Bool) → pick b (row x.registers) (pick (first_among i xs).present (first_among i xs) (first_among i ys))
        ≡ pick (pick b (row x.registers) (first_among i xs)).present (pick b (row x.registers) (first_among i xs)) (first_among i ys)
    go true = refl
    go false = refl

-- the first at place i, with e between those done and those to come
among : (i : ℕ) → i < places → (done : List Entry) (e : Entry) (es : List Entry)
    → first_among i (done ++ e ∷ es) ≡ pick (first_among i done).present (first_among i done) (pick (eqb (stored_at e) i) (row e.registers) (first_among i es))
among i l done e es = first_append i l done (e ∷ es) ∙ ap (λ (x : Row). pick (first_among i done).present (first_among i done) x) (first_cons i l e es)

rows_first : (avic : Bool) (s : List ℕ) (i : ℕ) → i < places → rows_of avic s i ≡ mask_row avic i (first_among i (entries s))
unfolding first_among counted
rows_first avic s i l = row_of_place_lem avic s i l

pub rows_present : (avic : Bool) (s : List ℕ) (i : ℕ) → i < places → (rows_of avic s i).present ≡ (first_among i (entries s)).present
rows_present avic s i l = ap (λ (x : Row). x.present) (rows_first avic s i l) ∙ go (first_among i (entries s)).present
  where
    go : (b : Bool) → (pick b (row (masked_at avic i (first_among i (entries s)).result)) vacant).present ≡ b
    go true = refl
    go false = refl

module _ (avic : Bool) (s : List ℕ) (p q r k : ℕ) (h : Inside s p q r k) (c : counts_fit s ≡ true) (done es : List Entry)
    (here : entries s ≡ done ++ entry_at s p q ∷ es) where
  same_place : stored_at (flip_entry r k (entry_at s p q)) ≡ stored_at (entry_at s p q)
  unfolding stored_at counts flip_entry
  same_place = refl

  -- the first at place i after the flip, and before
  after : (i : ℕ) → i < places → first_among i (entries (flipped s (flip p q r k)))
      ≡ pick (first_among i done).present (first_among i done)
      (pick (eqb (stored_at (entry_at s p q)) i) (row (xor_result (entry_at s p q).registers (one_bit r k))) (first_among i es))
  unfolding flip_entry
  after i l =
      ap (first_among i) (flip_among s p q r k h c done es here) ∙ among i l done (flip_entry r k (entry_at s p q)) es
      ∙ ap (λ (n : ℕ). pick (first_among i done).present (first_among i done)
      (pick (eqb n i) (row (xor_result (entry_at s p q).registers (one_bit r k))) (first_among i es))) same_place

  before : (i : ℕ) → i < places → first_among i (entries s)
      ≡ pick (first_among i done).present (first_among i done) (pick (eqb (stored_at (entry_at s p q)) i) (row (entry_at s p q).registers) (first_among i es))
  before i l = ap (first_among i) here ∙ among i l done (entry_at s p q) es

  beyond : (i : ℕ) → places ≤ i → rows_of avic (flipped s (flip p q r k)) i ≡ rows_of avic s i
  beyond i l = row_beyond avic _ i l ∙ sym (row_beyond avic s i l)

  -- a place that is not the entry's, or that has its first entry already
  elsewhere : (i : ℕ) → i < places → ((first_among i done).present ≡ false → stored_at (entry_at s p q) ≡ i → ⊥)
      → rows_of avic (flipped s (flip p q r k)) i ≡ rows_of avic s i
  elsewhere i l n =
      rows_first avic _ i l
      ∙ ap (mask_row avic i) (after i l ∙ go (first_among i done).present (eqb (stored_at (entry_at s p q)) i) refl refl ∙ sym (before i l)) ∙ sym (rows_first avic s i l)
    where
      go : (a b : Bool) → (first_among i done).present ≡ a → eqb (stored_at (entry_at s p q)) i ≡ b
          → pick a (first_among i done) (pick b (row (xor_result (entry_at s p q).registers (one_bit r k))) (first_among i es))
          ≡ pick a (first_among i done) (pick b (row (entry_at s p q).registers) (first_among i es))
      go true b e f = refl
      go false true e f = absurd (n e (eqb-true _ i f))
      go false false e f = refl

  -- "a flip in an entry that is not the first counted entry of its place changes nothing"
  pub flip_passed : ((i : ℕ) → i < places → (first_among i done).present ≡ false → stored_at (entry_at s p q) ≡ i → ⊥)
      → rows_of avic (flipped s (flip p q r k)) ≡ rows_of avic s
  flip_passed n = fun_ext (λ i. go i (ltb i places) refl)
    where
      go : (i : ℕ) (b : Bool) → ltb i places ≡ b → rows_of avic (flipped s (flip p q r k)) i ≡ rows_of avic s i
      go i true e = elsewhere i (ltb-true i places e) (n i (ltb-true i places e))
      go i false e = beyond i (ltb-false i places e)

  -- the row of a place is its first entry's
  pub taken_row : (i : ℕ) → i < places → stored_at (entry_at s p q) ≡ i → (first_among i done).present ≡ false
      → rows_of avic s i ≡ row (masked_at avic i (entry_at s p q).registers)
  taken_row i l e f = rows_first avic s i l ∙ ap (mask_row avic i) (before i l ∙ pick_false _ _ f ∙ pick_true _ _ (eq-eqb _ i e))

  -- a flip in a first entry gives its row the masked flipped registers
  pub flip_put : (i : ℕ) → i < places → stored_at (entry_at s p q) ≡ i → (first_among i done).present ≡ false
      → rows_of avic (flipped s (flip p q r k)) ≡ with_row i (masked_at avic i (xor_result (entry_at s p q).registers (one_bit r k))) (rows_of avic s)
  unfolding with_row
  flip_put i l e f = fun_ext (λ j. go j (ltb j places) (eqb j i) refl refl)
    where
      go : (j : ℕ) (a b : Bool) → ltb j places ≡ a → eqb j i ≡ b → rows_of avic (flipped s (flip p q r k)) j
          ≡ pick b (row (masked_at avic i (xor_result (entry_at s p q).registers (one_bit r k)))) (rows_of avic s j)
      go j a true u v =
          rw (eqb-true j i v) (rows_first avic _ i l ∙ ap (mask_row avic i) (after i l ∙ pick_false _ _ f ∙ pick_true _ _ (eq-eqb _ i e)))
      go j true false u v = elsewhere j (ltb-true j places u) (λ x y. eqb-false j i v (sym y ∙ e))
      go j false false u v = beyond j (ltb-false j places u)
