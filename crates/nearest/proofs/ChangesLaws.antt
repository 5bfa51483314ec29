-- What a flip changes, at the 88 rows: nothing where they stay, and else what building from the changed rows changes.
use Rattle.std.specs.Prelude.{◌≡◌, refl, true, false, List, ◌∷◌, ◌++◌, ℕ, ◌<◌, Ok}
use Rattle.std.proofs.Common.{sym, ◌∙◌}
use Rattle.std.proofs.Math.Path.{ap}
use Rattle.std.proofs.Math.Bool.{not}
use Rattle.pages.specs.Layout.{Entry, entry_at, counts_fit}
use Rattle.pages.specs.Entries.{entries}
use Rattle.masking.specs.Kept.{places}
use Rattle.table.specs.declared.Choices.{Choices}
use Rattle.table.specs.Edition.{known_edition}
use Rattle.table.specs.Rows.{Rows, row}
use Rattle.checks.specs.Checks.{rows_verdict}
use Rattle.collect.specs.FirstEntries.{masked_at}
use Rattle.collect.specs.Collect.{stored_at, first_among}
use Rattle.finish.specs.RowsBuilt.{table_for}
use Rattle.build.specs.Build.{rows_for}
use Rattle.collect.specs.Lawful.{lawful_verdict}
use Rattle.collect.proofs.LawfulLaws.{lawful_counts, lawful_clean, clean_lawful}
use Rattle.nearest.specs.Flips.{flip, flipped}
use Rattle.nearest.specs.OneBit.{one_bit, xor_result}
use Rattle.nearest.specs.FlippedEntryLaws.{Inside}
use Rattle.nearest.specs.CleanLaws.{length_lawful_lem, counts_lawful_lem, stays_clean}
use Rattle.nearest.specs.SameVerdict.{same_answer, same_from}
use Rattle.nearest.proofs.SameLaws.{answer_same}
use Rattle.nearest.specs.Changes.{changes}
use Rattle.nearest.specs.WithRow.{with_row}
use Rattle.nearest.specs.WithRowLaws.{put_same}
use Rattle.nearest.specs.FlippedRowLaws.{flip_passed, taken_row, flip_put}
use Rattle.nearest.specs.ChangesLaws.{lawful_length, lawful_table, lawful_verdict_lem}

-- ---- the same rows have the same answer

pub from_equal : (n : ℕ) {m o : Rows} → m ≡ o → same_from n m o ≡ true
from_equal n {m} {o} e = answer_same (ap rows_verdict e) (λ k. table_for n (rows_verdict (e k)) (e k))

-- ---- a flip of an entry

module _ (c : Choices) (s : List ℕ) (p q r k : ℕ) (h : Inside s p q r k) (known : known_edition c.edition ≡ true)
    (lawful : lawful_verdict s ≡ Ok tt) (done es : List Entry) (here : entries s ≡ done ++ entry_at s p q ∷ es) where
  abbrev m : Rows
  m = rows_for c s

  fit : counts_fit s ≡ true
  fit = lawful_counts s lawful

  stays_lawful : lawful_verdict (flipped s (flip p q r k)) ≡ Ok tt
  stays_lawful =
      clean_lawful (flipped s (flip p q r k)) (length_lawful_lem s p q r k h (lawful_length s lawful)) (counts_lawful_lem s p q r k h fit)
      (stays_clean s p q r k h fit (lawful_clean s lawful))

  changed_by : {o : Rows} → rows_for c (flipped s (flip p q r k)) ≡ o → changes c s (flip p q r k) ≡ not (same_from c.edition o m)
  unfolding changes
  changed_by {o} e =
      let f = flipped s (flip p q r k) in λ j.
      not (same_answer
      ((lawful_verdict_lem c f known stays_lawful ∙ ap rows_verdict e) j)
      ((lawful_table c f known stays_lawful ∙ ap (λ (x : Rows). table_for c.edition (rows_verdict x) x) e) j)
      (lawful_verdict_lem c s known lawful j)
      (lawful_table c s known lawful j))

  -- in an entry that is not the first counted entry of its place
  pub changes_nothing : ((i : ℕ) → i < places → (first_among i done).present ≡ false → stored_at (entry_at s p q) ≡ i → ⊥)
      → changes c s (flip p q r k) ≡ false
  changes_nothing n =
      changed_by (flip_passed c.secure_avic s p q r k h fit done es here n) ∙ ap not (from_equal c.edition refl)

  -- in a first entry: what building from the 88 rows with that row changed does
  pub changes_row : (i : ℕ) → i < places → stored_at (entry_at s p q) ≡ i → (first_among i done).present ≡ false → changes c s (flip p q r k)
      ≡ not (same_from c.edition (with_row i (masked_at c.secure_avic i (xor_result (entry_at s p q).registers (one_bit r k))) m) m)
  changes_row i l e f = changed_by (flip_put c.secure_avic s p q r k h fit done es here i l e f)

  -- in a first entry, outside the mask of its place
  pub changes_masked : (i : ℕ) → i < places → stored_at (entry_at s p q) ≡ i → (first_among i done).present ≡ false
      → masked_at c.secure_avic i (xor_result (entry_at s p q).registers (one_bit r k)) ≡ masked_at c.secure_avic i (entry_at s p q).registers
      → changes c s (flip p q r k) ≡ false
  changes_masked i l e f g =
      changes_row i l e f
      ∙ ap not (from_equal c.edition (put_same i _ m (taken_row c.secure_avic s p q r k h fit done es here i l e f ∙ ap row (sym g))))
