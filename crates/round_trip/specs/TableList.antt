-- A table's list is read: its rows, each word cut to 32 bits, and none of the refusals 10, 12 and 11.
use Rattle.std.specs.Prelude.{◌≡◌, refl, Bool, false, List, ◌∷◌, map, ℕ, zero, suc, ◌+◌, ◌*◌, ◌≤◌, ◌<◌, leb, length, Ok}
use Rattle.std.proofs.Common.{sym, ◌∙◌, arith}
use Rattle.std.proofs.Math.Path.{ap}
use Rattle.std.proofs.Math.Bool.{true, not}
use Rattle.std.proofs.Math.Dec.{eqb}
use borrow.Author.Tests.{le-leb, le-ltb, eq-eqb}
use Rattle.bits.specs.Choice.{pick}
use Rattle.bits.specs.Lists.{keep_if, one}
use Rattle.x86defs.specs.declared.CpuidResult.{CpuidResult}
use Rattle.x86defs.specs.Functions.{function, same_function, ExtendedStateEnumeration}
use Rattle.pages.specs.Layout.{most_entries}
use Rattle.masking.specs.Kept.{kept_leaves, slot, places, leaf_at, indexed_at}
use Rattle.table.specs.declared.CpuidResults.{CpuidResults}
use Rattle.table.specs.Table.{row_in}
use Rattle.kvm_list.specs.Words.{low_word}
use Rattle.kvm_list.specs.Format.{ListRow, row_count, rows_listed, list_bytes}
use Rattle.kvm_list.specs.FormatLaws.{cut_row, list_count, list_zero, list_rows_lem, list_length_lem}
use Rattle.kvm_import.specs.ListChecks.{bad_list_length, all_lawful, fields_lawful, is_extended_state, rows_on0, rows_on1, rows_fit}
use Rattle.kvm_import.specs.Import.{list_verdict}
use Rattle.kvm_export.specs.Export.{list_row, rows_from, list_rows, list_of}

length_from : (t : CpuidResults) (k n : ℕ) → length (rows_from t k n) ≤ n
unfolding rows_from
length_from t k zero = omega arith
length_from t k (suc n) = go (row_in t k).present (length_from t (suc k) n)
  where
    go : (b : Bool) → length (rows_from t (suc k) n) ≤ n
        → length (pick b (list_row k (row_in t k).result ∷ rows_from t (suc k) n) (rows_from t (suc k) n)) ≤ suc n
    go true h = omega arith
    go false h = omega arith

flag_lawful : (b : Bool) → leb (low_word (one b)) 1 ≡ true
flag_lawful true = refl
flag_lawful false = refl

lawful_from : (t : CpuidResults) (k n : ℕ) → all_lawful (map cut_row (rows_from t k n)) ≡ true
unfolding rows_from all_lawful
lawful_from t k zero = refl
lawful_from t k (suc n) = go (row_in t k).present (lawful_from t (suc k) n)
  where
    go : (b : Bool) → all_lawful (map cut_row (rows_from t (suc k) n)) ≡ true
        → all_lawful (map cut_row (pick b (list_row k (row_in t k).result ∷ rows_from t (suc k) n) (rows_from t (suc k) n))) ≡ true
    go true h = rw (flag_lawful (indexed_at k)) h
    go false h = h

-- how many places from k on pass a test
unfoldable tally : (ℕ → Bool) → ℕ → ℕ → ℕ
tally g k zero = 0
tally g k (suc n) = one (g k) + tally g (suc k) n

-- no more rows than places pass it
kept_from : (t : CpuidResults) (f : ListRow → Bool) (g : ℕ → Bool) → ((k : ℕ) (r : CpuidResult) → f (cut_row (list_row k r)) ≡ g k) → (k n : ℕ)
    → length (keep_if f (map cut_row (rows_from t k n))) ≤ tally g k n
unfolding rows_from keep_if tally
kept_from t f g e k zero = omega arith
kept_from t f g e k (suc n) = go (row_in t k).present (kept_from t f g e (suc k) n)
  where
    kept : (b : Bool) (x : ListRow) (xs : List ListRow) → length xs ≤ tally g (suc k) n → length (pick b (x ∷ xs) xs) ≤ one b + tally g (suc k) n
    kept true x xs h = omega arith
    kept false x xs h = omega arith

    go : (b : Bool) → length (keep_if f (map cut_row (rows_from t (suc k) n))) ≤ tally g (suc k) n
        → length (keep_if f (map cut_row (pick b (list_row k (row_in t k).result ∷ rows_from t (suc k) n) (rows_from t (suc k) n)))) ≤ one
        (g k) + tally g (suc k) n
    go true h = rw (e k (row_in t k).result) (kept (g k) (cut_row (list_row k (row_in t k).result)) _ h)
    go false h = omega arith

abbrev is_dh : ℕ → Bool
is_dh k = same_function (function (low_word (leaf_at k).0)) ExtendedStateEnumeration

tally_1 : tally is_dh 0 places ≡ 64
unfolding tally slot kept_leaves
tally_1 = refl

tally_0 : tally (λ k. not (is_dh k)) 0 places ≡ 24
unfolding tally slot kept_leaves
tally_0 = refl

module _ (t : CpuidResults) where
  -- the rows that reading gives
  abbrev pub list_rows_read : List ListRow
  list_rows_read = map cut_row (list_rows t)

  pub few_rows : length (list_rows t) ≤ places
  unfolding list_rows
  few_rows = length_from t 0 places

  small : length (list_rows t) < 4294967296
  small = omega (arith, few_rows)

  pub fit_0 : length (rows_on0 list_rows_read) ≤ most_entries
  unfolding rows_on0 list_rows
  fit_0 = omega (arith, kept_from t (λ r. not (is_extended_state r)) (λ k. not (is_dh k)) (λ k r. refl) 0 places, tally_0)

  pub fit_1 : length (rows_on1 list_rows_read) ≤ most_entries
  unfolding rows_on1 list_rows
  fit_1 = omega (arith, kept_from t is_extended_state is_dh (λ k r. refl) 0 places, tally_1)

  pub rows_read_lem : rows_listed (list_of t) ≡ list_rows_read
  unfolding list_of
  rows_read_lem = list_rows_lem (list_rows t) small

  good_length : bad_list_length (list_of t) ≡ false
  unfolding bad_list_length list_of
  good_length =
      let e : eqb (length (list_of t)) (8 + 40 * row_count (list_of t)) ≡ true =
      eq-eqb _ _ (list_length_lem (list_rows t) ∙ ap (λ (n : ℕ). 8 + 40 * n) (sym (list_count (list_rows t) small))) in
      rw (le-ltb (length (list_of t)) 8 (omega (arith, list_length_lem (list_rows t))), e)

  good_fields : fields_lawful (list_of t) ≡ true
  unfolding fields_lawful list_of list_rows
  good_fields = rw (list_zero (list_rows t) small, list_rows_lem (list_rows t) small) (lawful_from t 0 places)

  pub list_accepted : list_verdict (list_of t) ≡ Ok tt
  unfolding list_verdict rows_fit
  list_accepted =
      rw (
        good_length,
        good_fields,
        rows_read_lem,
        le-leb (length (rows_on0 list_rows_read)) most_entries fit_0,
        le-leb (length
            (rows_on1 list_rows_read)) most_entries fit_1,
      )
