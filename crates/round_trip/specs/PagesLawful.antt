-- The two pages made of rows are lawful: their length and counts, and zero in the reserved bytes of every entry.
use Rattle.std.specs.Prelude.{◌≡◌, refl, true, List, [], ◌∷◌, ◌++◌, ℕ, zero, suc, ◌+◌, ◌*◌, ◌≤◌, ◌<◌, length, get_or, Ok}
use Rattle.std.proofs.Common.{sym, ap, ◌∙◌, arith}
use Rattle.pages.specs.Layout.{word_at, count_of, pages_in, most_entries}
use Rattle.pages.specs.Reserved.{is_clean_at, all_clean}
use Rattle.pages.specs.ZerosLaws.{zeros_of_words}
use Rattle.pages.specs.ReservedLaws.{all_clean_lem}
use Rattle.collect.specs.Lawful.{lawful_verdict}
use Rattle.collect.proofs.LawfulLaws.{clean_lawful}
use Rattle.kvm_list.specs.Words.{bytes_of_words, low_word}
use Rattle.kvm_list.specs.Format.{ListRow}
use Rattle.kvm_import.specs.ListChecks.{rows_on0, rows_on1}
use Rattle.kvm_import.specs.ListPages.{entries_words, page_words, pages_of}
use Rattle.round_trip.specs.PagesRead.{AllFit, words_past, word_0, word_1, pages_in_lem, count_0, count_1, fits_0, fits_1, whole, pages_length, pages_counts}

-- words 10 and 11 of an entry
last_words : (rs : List ListRow) (post : List ℕ) (q : ℕ) → q < length rs
    → (get_or (entries_words rs ++ post) (12 * q + 10) 0 ≡ 0) × (get_or (entries_words rs ++ post) (12 * q + 11) 0 ≡ 0)
unfolding entries_words
last_words [] post q l = absurd (omega arith)
last_words (r ∷ rs) post zero l = (refl, refl)
last_words (r ∷ rs) post (suc q) l =
    let (a, b) = last_words rs post q (omega arith) in (words_past r rs post q 10 ∙ a, words_past r rs post q 11 ∙ b)

-- where they are 0, so are the eight reserved bytes
entry_clean : (s : List ℕ) (p q : ℕ) → word_at s (4096 * p + 16 + 48 * q + 4 * 10) ≡ 0 → word_at s (4096 * p + 16 + 48 * q + 4 * 11) ≡ 0
    → is_clean_at s p q ≡ true
entry_clean s p q a b =
    let o : ℕ = 4096 * p + 16 + 48 * q in
    let z : o + 40 + 4 ≡ o + 44 = omega arith in
    zeros_of_words s (o + 40) a (ap (word_at s) z ∙ b)

module _ (A B : List ListRow) (fitA : AllFit A) (fitB : AllFit B) (fewA : length A ≤ most_entries) (fewB : length B ≤ most_entries) where
  abbrev made : List ℕ
  made = bytes_of_words (page_words A ++ page_words B)

  clean_0 : (q : ℕ) → q < length A → is_clean_at made 0 q ≡ true
  clean_0 q l =
      let (a, b) = last_words A _ q l in
      entry_clean made 0 q (word_0 A B fitA fitB fewA fewB q 10 ∙ ap low_word a) (word_0 A B fitA fitB fewA fewB q 11 ∙ ap low_word b)

  clean_1 : (q : ℕ) → q < length B → is_clean_at made 1 q ≡ true
  clean_1 q l =
      let (a, b) = last_words B _ q l in
      entry_clean made 1 q (word_1 A B fitA fitB fewA fewB q 10 ∙ ap low_word a) (word_1 A B fitA fitB fewA fewB q 11 ∙ ap low_word b)

  pub made_clean : all_clean made ≡ true
  made_clean = all_clean_lem made at
    where
      at : (p q : ℕ) → p < pages_in made → q < count_of made p → is_clean_at made p q ≡ true
      at zero q h l = clean_0 q (omega (arith, count_0 A B fitA fitB fewA fewB))
      at (suc zero) q h l = clean_1 q (omega (arith, count_1 A B fitA fitB fewA fewB))
      at (suc (suc p)) q h l = absurd (omega (arith, pages_in_lem A B fitA fitB fewA fewB))

module _ (rs : List ListRow) (fit : AllFit rs) (few-0 : length (rows_on0 rs) ≤ most_entries) (few-1 : length (rows_on1 rs) ≤ most_entries) where
  pages_clean : all_clean (pages_of rs) ≡ true
  pages_clean = rw (whole rs fit few-0 few-1) (made_clean (rows_on0 rs) (rows_on1 rs) (fits_0 rs fit few-0 few-1) (fits_1 rs fit few-0 few-1) few-0 few-1)

  pub pages_lawful : lawful_verdict (pages_of rs) ≡ Ok tt
  pages_lawful = clean_lawful (pages_of rs) (pages_length rs fit few-0 few-1) (pages_counts rs fit few-0 few-1) pages_clean
