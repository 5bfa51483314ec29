-- The two pages as they are stored: the counts, the entries and the zeros after them; and how long they are.
use Rattle.std.specs.Prelude.{◌≡◌, refl, List, ◌++◌, ℕ, ◌+◌, ◌-◌, ◌*◌, length, replicate}
use Rattle.std.proofs.Common.{sym, ap, ◌∙◌, append_assoc, arith, length-append}
use Rattle.std.proofs.lemmas.List.Edits.{sets}
use Rattle.buffer.specs.Front.{word_bytes}
use Rattle.kvm_list.specs.Words.{bytes_of_words}
use Rattle.kvm_list.specs.WordsLaws.{bytes_append, zero_words}
use Rattle.kvm_list.specs.Format.{ListRow}
use Rattle.kvm_list.specs.StoresLaws.{sets_join, sets_swap, word_length}
use Rattle.kvm_import.specs.ListChecks.{rows_on0, rows_on1}
use Rattle.kvm_import.specs.ListPages.{entries_words, page_words, pages_of}
use Rattle.kvm_import.specs.ImportPieces.{count_bytes, entries_bytes, page_bytes}

pub pages_split : (rs : List ListRow) → pages_of rs ≡ page_bytes (rows_on0 rs) ++ page_bytes (rows_on1 rs)
unfolding pages_of page_bytes
pages_split rs = refl

-- ---- the count

pub count_length : (n : ℕ) → length (count_bytes n) ≡ 16
unfolding count_bytes
count_length n = length-append (word_bytes n) (replicate 12 0) ∙ omega (arith, word_length n)

pub count_done : (out : List ℕ) (at n : ℕ) {o₁ o₂ : List ℕ} → o₁ ≡ sets out at (word_bytes n)
    → o₂ ≡ sets o₁ (at + 4) (replicate (at + 16 - (at + 4)) 0) → o₂ ≡ sets out at (count_bytes n)
unfolding count_bytes
count_done out at n p q =
    let s : at + 16 - (at + 4) ≡ 12 = omega arith in
    rw (q, p, s) (sets_join out at (word_bytes n) (replicate 12 0) (at + 4) (omega (arith, word_length n)))

-- ---- a page

pub page_pieces : (rs : List ListRow) → (count_bytes (length rs) ++ entries_bytes rs) ++ replicate (4080 - 48 * length rs) 0 ≡ page_bytes rs
unfolding word_bytes count_bytes page_bytes page_words entries_bytes bytes_of_words
page_pieces rs =
    let k : ℕ = 1020 - 12 * length rs in
    let e : 4080 - 48 * length rs ≡ 4 * k = omega arith in
    append_assoc (word_bytes (length rs) ++ replicate 12 0) (entries_bytes rs) (replicate (4080 - 48 * length rs) 0)
    ∙ ap (λ (l : List ℕ). (word_bytes (length rs) ++ replicate 12 0) ++ l)
    (ap (λ (l : List ℕ). entries_bytes rs ++ l) (ap (λ (n : ℕ). replicate {A = ℕ} n 0) e ∙ sym (zero_words k))
    ∙ sym (bytes_append (entries_words rs) (replicate k 0)))

-- ---- both pages: stores on page 0 change places with earlier ones on page 1

module _ (out : List ℕ) (A E Z B F Y : List ℕ) (k m : ℕ) (a : length A ≡ 16) (e : 16 + length E ≡ k) (z : k + length Z ≡ 4096) where
  pub sorted_stores : sets (sets (sets (sets (sets (sets out 0 A) 4096 B) 16 E) 4112 F) k Z) m Y
      ≡ sets (sets (sets (sets (sets (sets out 0 A) 16 E) k Z) 4096 B) 4112 F) m Y
  sorted_stores =
      let x : List ℕ = sets out 0 A in
      ap (λ (l : List ℕ). sets (sets (sets l 4112 F) k Z) m Y) (sym (sets_swap E B x 16 4096 (omega arith)))
      ∙ ap (λ (l : List ℕ). sets l m Y) (sym (sets_swap Z F (sets (sets x 16 E) 4096 B) k 4112 (omega arith)))
      ∙ ap (λ (l : List ℕ). sets (sets l 4112 F) m Y) (sym (sets_swap Z B (sets x 16 E) k 4096 (omega arith)))
