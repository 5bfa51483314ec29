-- A list of rows written as bytes is read again: the same rows, each word cut to 32 bits.
use Rattle.std.specs.Prelude.{◌≡◌, refl, List, [], ◌∷◌, ◌++◌, map, length, get_or}
use Rattle.std.proofs.Math.Path.{ap, ap₂, fun_ext}
use Rattle.std.proofs.Common.{◌∙◌, get_or-append-add}
use Prim.Native.Nat.{ℕ, suc, ◌+◌, ◌*◌, ◌<◌}
use native.Mathlib.Omega.{arith}
use Rattle.bits.specs.Lists.{tabulate}
use Rattle.pages.specs.Layout.{word_at}
use Rattle.kvm_list.specs.Words.{low_word}
use Rattle.kvm_list.specs.WordsLaws.{cut_small, length_bytes, word_bytes}
use Rattle.kvm_list.specs.Format.{ListRow, row_words, row_from, all_words, list_bytes, row_at, rows_listed}

-- a row of 32-bit words
abbrev pub cut_row : ListRow → ListRow
cut_row r = row_from (λ j. low_word (get_or (row_words r) j 0))

-- ---- rows, word by word

rows_read_lem : (rs : List ListRow) → tabulate (length rs) (λ q. row_from (λ j. low_word (get_or (all_words rs) (10 * q + j) 0))) ≡ map cut_row rs
unfolding tabulate all_words
rows_read_lem [] = refl
rows_read_lem (r ∷ rs) =
    ap₂ ◌∷◌ refl
    (ap (tabulate (length rs))
    (fun_ext (λ q. ap row_from (fun_ext (λ j. ap low_word (past q j)))))
    ∙ rows_read_lem rs)
  where
    past : (q j : ℕ) → get_or (row_words r ++ all_words rs) (10 * suc q + j) 0 ≡ get_or (all_words rs) (10 * q + j) 0
    past q j =
        let p : 10 * suc q + j ≡ 10 + (10 * q + j) = omega arith in
        ap (λ (n : ℕ). get_or (row_words r ++ all_words rs) n 0) p ∙ get_or-append-add (row_words r) (all_words rs) (10 * q + j) 0

pub length_all : (rs : List ListRow) → length (all_words rs) ≡ 10 * length rs
unfolding all_words
length_all [] = refl
length_all (r ∷ rs) = let e : length (all_words rs) ≡ 10 * length rs = length_all rs in omega arith

pub list_length_lem : (rs : List ListRow) → length (list_bytes rs) ≡ 8 + 40 * length rs
unfolding list_bytes
list_length_lem rs = length_bytes (length rs ∷ 0 ∷ all_words rs) ∙ (let e : length (all_words rs) ≡ 10 * length rs = length_all rs in omega arith)

module _ (rs : List ListRow) (small : length rs < 4294967296) where
  pub list_count : word_at (list_bytes rs) 0 ≡ length rs
  unfolding list_bytes
  list_count = word_bytes (length rs ∷ 0 ∷ all_words rs) 0 ∙ cut_small (length rs) small

  pub list_zero : word_at (list_bytes rs) 4 ≡ 0
  unfolding list_bytes
  list_zero = word_bytes (length rs ∷ 0 ∷ all_words rs) 1

  list_row_lem : (q : ℕ) → row_at (list_bytes rs) q ≡ row_from (λ j. low_word (get_or (all_words rs) (10 * q + j) 0))
  unfolding list_bytes row_at
  list_row_lem q =
      ap row_from
      (fun_ext (λ j.
      let p : 8 + 40 * q + 4 * j ≡ 4 * suc (suc (10 * q + j)) = omega arith in
      ap (word_at (list_bytes rs)) p ∙ word_bytes (length rs ∷ 0 ∷ all_words rs) (suc (suc (10 * q + j)))))

  pub list_rows_lem : rows_listed (list_bytes rs) ≡ map cut_row rs
  unfolding rows_listed
  list_rows_lem = ap₂ tabulate list_count (fun_ext list_row_lem) ∙ rows_read_lem rs
