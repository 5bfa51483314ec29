-- The rows that are left from place i on, how many rows there are, and the whole list.
use Rattle.std.specs.Prelude.{◌≡◌, refl, Bool, true, false, [], ◌∷◌, ◌++◌, ℕ, zero, suc, ◌+◌, ◌-◌, ◌*◌, ◌<◌, length, get_or}
use Rattle.std.proofs.Common.{sym, ap, ◌∙◌, add-one, arith}
use Rattle.bits.specs.Choice.{pick}
use Rattle.bits.specs.Lists.{one}
use Rattle.masking.specs.Kept.{places}
use Rattle.table.specs.declared.CpuidResults.{CpuidResults}
use Rattle.table.specs.Table.{row_in}
use Rattle.buffer.specs.Front.{word_bytes}
use Rattle.image.specs.ImagePieces.{rows_among}
use Rattle.image.specs.LengthLaws.{among_more}
use Rattle.kvm_list.specs.Words.{bytes_of_words}
use Rattle.kvm_list.specs.WordsLaws.{bytes_append}
use Rattle.kvm_list.specs.Format.{row_words, all_words, list_bytes}
use Rattle.kvm_list.specs.FormatLaws.{list_length_lem}
use Rattle.kvm_export.specs.Export.{list_row, rows_from, list_rows, list_of}
use Rattle.kvm_export.specs.ExportPieces.{rows_left}
use Rattle.kvm_export.specs.RunRowLaws.{place_bytes}

-- ---- the rows that are left

pub rows_more : (t : CpuidResults) (i : ℕ) → i < places → rows_left t i ≡ place_bytes t i ++ rows_left t (i + 1)
unfolding rows_left rows_from all_words
rows_more t i h =
    let e : places - i ≡ suc (places - suc i) = omega arith in
    ap (λ (n : ℕ). bytes_of_words (all_words (rows_from t i n))) e
    ∙ go (row_in t i).present
    ∙ ap (λ (k : ℕ). place_bytes t i ++ bytes_of_words (all_words (rows_from t k (places - k)))) (sym (add-one i))
  where
    go : (b : Bool) → bytes_of_words (all_words (pick b (list_row i (row_in t i).result ∷ rows_from t (suc i) (places - suc i)) (rows_from t (suc i)
        (places - suc i))))
        ≡ pick b (bytes_of_words (row_words (list_row i (row_in t i).result))) [] ++ bytes_of_words (all_words (rows_from t (suc i) (places - suc i)))
    go true = bytes_append (row_words (list_row i (row_in t i).result)) (all_words (rows_from t (suc i) (places - suc i)))
    go false = refl

-- ---- the whole list

pub count_from_lem : (t : CpuidResults) (k n : ℕ) → rows_among t.present 0 k + length (rows_from t k n) ≡ rows_among t.present 0 (k + n)
unfolding rows_from
count_from_lem t k zero = let z : k + 0 ≡ k = omega arith in rw z (omega arith)
count_from_lem t k (suc n) = go (row_in t k).present refl (count_from_lem t (suc k) n)
  where
    more : rows_among t.present 0 (k + 1) ≡ rows_among t.present 0 k + one (get_or t.present k false)
    more = among_more t.present 0 k (omega arith)

    go : (b : Bool) → (row_in t k).present ≡ b → rows_among t.present 0 (suc k) + length (rows_from t (suc k) n) ≡ rows_among t.present 0 (suc k + n)
        → rows_among t.present 0 k + length (pick b (list_row k (row_in t k).result ∷ rows_from t (suc k) n) (rows_from t (suc k) n)) ≡ rows_among
        t.present 0 (k + suc n)
    go b e ih =
        let z : k + suc n ≡ suc k + n = omega arith in
        let m : rows_among t.present 0 (suc k) ≡ rows_among t.present 0 k + one b = sym (ap (rows_among t.present 0)
        (add-one k)) ∙ more ∙ ap (λ (x : Bool). rows_among t.present 0 k + one x) e in
        rw z (last b m)
      where
        last : (b : Bool) → rows_among t.present 0 (suc k) ≡ rows_among t.present 0 k + one b
            → rows_among t.present 0 k + length (pick b (list_row k (row_in t k).result ∷ rows_from t (suc k) n) (rows_from t
            (suc k) n)) ≡ rows_among t.present 0 (suc k + n)
        last true m = omega (arith, ih, m)
        last false m = omega (arith, ih, m)

pub export_length : (t : CpuidResults) → length (list_of t) ≡ 8 + 40 * length (list_rows t)
unfolding list_of
export_length t = list_length_lem (list_rows t)

pub list_pieces : (t : CpuidResults) → (word_bytes (length (list_rows t)) ++ word_bytes 0) ++ rows_left t 0 ≡ list_of t
unfolding word_bytes rows_left list_of list_bytes bytes_of_words list_rows
list_pieces t = refl

pub rows_none : (t : CpuidResults) (i : ℕ) → i ≡ places → rows_left t i ≡ []
unfolding rows_left rows_from all_words bytes_of_words
rows_none t i e = ap (rows_left t) e
