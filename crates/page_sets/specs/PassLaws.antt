-- One pass over page bytes gives what the definitions give: the entries, the rows, and the verdict.
use Rattle.std.specs.Prelude.{◌≡◌, Bool, true, false, ltb, get_or, drop, Err, Ok, Result}
use Rattle.std.proofs.Math.Path.{refl, ap, ap₂, fun_ext}
use Rattle.std.proofs.Common.{sym, ◌∙◌, arith, get_or-drop, drop-drop, eqb-true}
use mathlib.Core.List.{List, [], ◌∷◌, ◌++◌}
use Prim.Native.Nat.{ℕ, zero, suc, ◌+◌, ◌*◌}
use Rattle.std.proofs.Math.Dec.{eqb, leb}
use Rattle.bits.specs.Choice.{pick}
use Rattle.bits.specs.Lists.{keep_if}
use Rattle.bits.specs.Search.{every}
use Rattle.x86defs.specs.Functions.{function}
use Rattle.pages.specs.Layout.{Entry, page_size, entry_size, entries_at, most_entries, word_at, pages_in, count_of, entry_start, entry_at, counts_fit}
use Rattle.pages.specs.Entries.{on_page, on_pages, entries, counts, counted}
use Rattle.pages.specs.Reserved.{reserved_at, eight_zeros, first_nonzero, reserved_of}
use Rattle.masking.specs.Kept.{places}
use Rattle.table.specs.declared.Choices.{Choices}
use Rattle.table.specs.declared.Refusal.TheVariants.{PageCount}
use Rattle.table.specs.Refusal.{and_then}
use Rattle.table.specs.Rows.{Row, Rows, row, vacant}
use Rattle.checks.specs.Checks.{refuse_unless, rows_verdict}
use Rattle.collect.specs.FirstEntries.{place_of_entry, first_at, masked_at, mask_row, rows_of}
use Rattle.finish.specs.RowsBuilt.{table_for}
use Rattle.build.specs.Build.{edition_verdict, verdict_of, answer}
use Rattle.collect.specs.Lawful.{length_verdict, counts_verdict, clean_verdict, reserved_verdict, lawful_verdict}
use Rattle.page_sets.specs.Pass.{entry_in, on_page_in, on_pages_in, unclean_on_page, unclean_in, passed_lawful, placed_entry, placed_entries, first_placed, passed_entries, passed_rows, passed_verdict, passed_table}
use Rattle.table.specs.Verdict.{Verdict}
use Rattle.x86defs.specs.declared.CpuidFunction.{CpuidFunction}

module _ (s : List ℕ) where
  -- ---- offsets

  byte_dropped : (o k j : ℕ) → get_or s (o + k + j) 0 ≡ get_or (drop o s) (k + j) 0
  byte_dropped o k j = ap (λ (n : ℕ). get_or s n 0) (omega arith) ∙ sym (get_or-drop o s (k + j) 0)

  word_dropped : (o k : ℕ) → word_at s (o + k) ≡ word_at (drop o s) k
  word_dropped o k = rw (get_or-drop o s k 0, ← byte_dropped o k 1, ← byte_dropped o k 2, ← byte_dropped o k 3)

  word_first : (o : ℕ) → word_at s o ≡ word_at (drop o s) 0
  word_first o = let e : o ≡ o + 0 = omega arith in ap (word_at s) e ∙ word_dropped o 0

  drop_again : (m n o : ℕ) → n + m ≡ o → drop m (drop n s) ≡ drop o s
  drop_again m n o e = drop-drop m n s ∙ ap (λ (k : ℕ). drop k s) e

  next_entry : (p q : ℕ) → drop entry_size (drop (entry_start p q) s) ≡ drop (entry_start p (suc q)) s
  next_entry p q = drop_again entry_size (entry_start p q) (entry_start p (suc q)) (omega arith)

  first_entry : (p : ℕ) → drop entries_at (drop (page_size * p) s) ≡ drop (entry_start p 0) s
  first_entry p = drop_again entries_at (page_size * p) (entry_start p 0) (omega arith)

  next_page : (p : ℕ) → drop page_size (drop (page_size * p) s) ≡ drop (page_size * suc p) s
  next_page p = drop_again page_size (page_size * p) (page_size * suc p) (omega arith)

  -- ---- entries

  entry_dropped : (p q : ℕ) → entry_at s p q ≡ entry_in p q (drop (entry_start p q) s)
  unfolding entry_at
  entry_dropped p q =
      let o : ℕ = entry_start p q in
      rw (word_first o, word_dropped o 4, word_dropped o 24, word_dropped o 28, word_dropped o 32, word_dropped o 36)

  on_page_dropped : (p q n : ℕ) → on_page s p q n ≡ on_page_in p q n (drop (entry_start p q) s)
  unfolding on_page on_page_in
  on_page_dropped p q zero = refl
  on_page_dropped p q (suc n) =
      ap₂ ◌∷◌ (entry_dropped p q) (on_page_dropped p (suc q) n ∙ ap (on_page_in p (suc q) n) (sym (next_entry p q)))

  on_pages_dropped : (p n : ℕ) → on_pages s p n ≡ on_pages_in p n (drop (page_size * p) s)
  unfolding on_pages on_pages_in
  on_pages_dropped p zero = refl
  on_pages_dropped p (suc n) =
      ap₂ ◌++◌
      (on_page_dropped p 0 (count_of s p) ∙ ap₂ (on_page_in p 0) (word_first (page_size * p)) (sym (first_entry p)))
      (on_pages_dropped (suc p) n ∙ ap (on_pages_in (suc p) n) (sym (next_page p)))

  pub entries_passed : entries s ≡ on_pages_in 0 (pages_in s) s
  unfolding entries
  entries_passed = on_pages_dropped 0 (pages_in s)

  pub counted_passed : counted s ≡ keep_if counts (on_pages_in 0 (pages_in s) s)
  unfolding counted
  counted_passed = ap (keep_if counts) entries_passed

  -- ---- lawfulness

  zeros_dropped : (o k : ℕ) → eight_zeros s (o + k) ≡ eight_zeros (drop o s) k
  unfolding eight_zeros
  zeros_dropped o k = ap (λ (f : ℕ → ℕ). every (λ j. eqb (f j) 0) 8) (fun_ext (byte_dropped o k))

  unclean_on_page_lem : (p q n : ℕ) (es : List Entry)
      → first_nonzero s (on_page s p q n ++ es) ≡ unclean_on_page (first_nonzero s es) n (drop (entry_start p q) s)
  unfolding first_nonzero on_page entry_at unclean_on_page
  unclean_on_page_lem p q zero es = refl
  unclean_on_page_lem p q (suc n) es =
      ap₂ (λ (b : Bool) (o : ℕ). pick b (first_nonzero s (on_page s p (suc q) n ++ es)) (Err (function o)))
      (zeros_dropped (entry_start p q) reserved_at) (word_first (entry_start p q))
      ∙ ap (λ (x : Result Unit CpuidFunction). pick (eight_zeros (drop (entry_start p q) s) reserved_at) x (Err (function (word_at (drop (entry_start p q) s) 0))))
      (unclean_on_page_lem p (suc q) n es ∙ ap (unclean_on_page (first_nonzero s es) n) (sym (next_entry p q)))

  unclean_in_lem : (p n : ℕ) → first_nonzero s (on_pages s p n) ≡ unclean_in n (drop (page_size * p) s)
  unfolding first_nonzero on_pages unclean_in
  unclean_in_lem p zero = refl
  unclean_in_lem p (suc n) =
      unclean_on_page_lem p 0 (count_of s p) (on_pages s (suc p) n)
      ∙ ap₂ (unclean_on_page (first_nonzero s (on_pages s (suc p) n))) (word_first (page_size * p)) (sym (first_entry p))
      ∙ ap (λ (x : Result Unit CpuidFunction). unclean_on_page x (word_at (drop (page_size * p) s) 0) (drop entries_at (drop (page_size * p) s)))
      (unclean_in_lem (suc p) n ∙ ap (unclean_in n) (sym (next_page p)))

  pub lawful_passed : lawful_verdict s ≡ passed_lawful s
  unfolding lawful_verdict counts_verdict reserved_verdict counts_fit reserved_of entries passed_lawful
  lawful_passed =
      ap₂ (λ (f : ℕ → ℕ) (x : Result Unit CpuidFunction). and_then (length_verdict s)
      (and_then (refuse_unless (every (λ p. leb (f p) most_entries) (pages_in s)) PageCount) (clean_verdict x)))
      (fun_ext (λ p. word_first (page_size * p))) (unclean_in_lem 0 (pages_in s))

-- ---- rows

first_placed_lem : (avic : Bool) (i : ℕ) (es : List Entry) → mask_row avic i (first_at i (keep_if counts es)) ≡ first_placed i (placed_entries avic es)
unfolding first_at keep_if placed_entries placed_entry first_placed
first_placed_lem avic i [] = refl
first_placed_lem avic i (e ∷ es) = by_count (first_placed_lem avic i es) (counts e)
  where
    by_place_lem : mask_row avic i (first_at i (keep_if counts es)) ≡ first_placed i (placed_entries avic es) → (b : Bool) → eqb (place_of_entry e) i ≡ b
        → mask_row avic i (pick b (row e.registers) (first_at i (keep_if counts es)))
        ≡ pick b (row (masked_at avic (place_of_entry e) e.registers)) (first_placed i (placed_entries avic es))
    by_place_lem rest true f = ap (λ (j : ℕ). row (masked_at avic j e.registers)) (sym (eqb-true (place_of_entry e) i f))
    by_place_lem rest false f = rest

    by_count : mask_row avic i (first_at i (keep_if counts es)) ≡ first_placed i (placed_entries avic es)
        → (b : Bool) → mask_row avic i (first_at i (pick b (e ∷ keep_if counts es) (keep_if counts es)))
        ≡ first_placed i (pick b (placed_entry avic e ∷ placed_entries avic es) (placed_entries avic es))
    by_count rest true = by_place_lem rest (eqb (place_of_entry e) i) refl
    by_count rest false = rest

pub rows_passed : (avic : Bool) (s : List ℕ) → rows_of avic s ≡ passed_rows avic s
unfolding rows_of counted passed_rows passed_entries
rows_passed avic s =
    fun_ext (λ i. ap (λ (r : Row). pick (ltb i places) r vacant)
    (first_placed_lem avic i (entries s) ∙ ap (λ (es : List Entry). first_placed i (placed_entries avic es)) (entries_passed s)))

-- ---- the answer

module _ (c : Choices) (s : List ℕ) where
  pub verdict_passed : (answer c s).verdict ≡ passed_verdict c s
  unfolding answer verdict_of passed_verdict
  verdict_passed =
      ap₂ (λ (v : Verdict) (m : Rows). and_then (edition_verdict c.edition) (and_then v (rows_verdict m)))
      (lawful_passed s) (rows_passed c.secure_avic s)

  pub table_passed : (answer c s).verdict ≡ Ok tt → (answer c s).table ≡ passed_table c s
  unfolding answer
  table_passed e = ap₂ (table_for c.edition) e (rows_passed c.secure_avic s)
