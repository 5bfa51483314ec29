-- The two pages as they are stored: the counts, the entries and the zeros after them; and how long they are.
use Rattle.std.specs.Prelude.{◌≡◌, List, ◌++◌, ℕ, ◌+◌, ◌-◌, ◌*◌, ◌≤◌, length, replicate}
use Rattle.std.proofs.Common.{sym, ap, ◌∙◌, arith, length-append}
use Rattle.std.proofs.lemmas.List.{length-replicate}
use Rattle.std.proofs.lemmas.List.Edits.{sets}
use Rattle.pages.specs.Layout.{most_entries}
use Rattle.kvm_list.specs.WordsLaws.{length_bytes}
use Rattle.kvm_list.specs.Format.{ListRow}
use Rattle.kvm_list.specs.StoresLaws.{sets_join}
use Rattle.kvm_import.specs.ListChecks.{rows_on0, rows_on1}
use Rattle.kvm_import.specs.ListPages.{entries_words, page_words, pages_of}
use Rattle.kvm_import.specs.ImportPieces.{count_bytes, entries_bytes, page_bytes, entered}
use Rattle.kvm_import.proofs.ListEntriesLaws.{entries_length}
use Rattle.kvm_import.specs.PagesLaws.{count_length, page_pieces, pages_split, sorted_stores}

-- ---- lengths

length_entries : (rs : List ListRow) → length (entries_words rs) ≡ 12 * length rs
unfolding entries_bytes
length_entries rs = omega (arith, entries_length rs, length_bytes (entries_words rs))

pub length_page : (rs : List ListRow) → length rs ≤ most_entries → length (page_words rs) ≡ 1024
unfolding page_words
length_page rs h =
    omega (
      arith,
      length-append (entries_words rs) (replicate (1020 - 12 * length rs) 0),
      length_entries rs,
      length-replicate {A = ℕ}
          (1020 - 12 * length rs) 0,
    )

page_length : (rs : List ListRow) → length rs ≤ most_entries → length (page_bytes rs) ≡ 4096
unfolding page_bytes
page_length rs h = length_bytes (page_words rs) ∙ omega (arith, length_page rs h)

pub pages_length : (rs : List ListRow) → length (rows_on0 rs) ≤ most_entries → length (rows_on1 rs) ≤ most_entries → length (pages_of rs) ≡ 8192
pages_length rs h k =
    omega (
      arith,
      ap length (pages_split rs),
      length-append (page_bytes (rows_on0 rs)) (page_bytes (rows_on1 rs)),
      page_length (rows_on0 rs) h,
      page_length (rows_on1 rs) k,
    )

-- the count, the entries and the zeros of a page, stored one after another
three_pieces : (out : List ℕ) (at : ℕ) (rs : List ListRow) → length rs ≤ 64
    → sets (sets (sets out at (count_bytes (length rs))) (at + 16) (entries_bytes rs)) (at + 16 + 48 * length rs) (replicate (4080 - 48 * length rs) 0)
    ≡ sets out at (page_bytes rs)
three_pieces out at rs h =
    let a : List ℕ = count_bytes (length rs) in
    let b : List ℕ = entries_bytes rs in
    let c : List ℕ = replicate (4080 - 48 * length rs) 0 in
    ap (λ (l : List ℕ). sets l (at + 16 + 48 * length rs) c) (sets_join out at a b (at + 16) (omega (arith, count_length (length rs))))
    ∙ sets_join out at (a ++ b) c (at + 16 + 48 * length rs) (omega (arith, length-append a b, count_length (length rs), entries_length rs))
    ∙ ap (sets out at) (page_pieces rs)

pub pages_done : (out : List ℕ) (rs : List ListRow) {n d : ℕ} {o₁ o₂ o₃ o₄ o₅ : List ℕ} → n ≡ length (rows_on0 rs) → d ≡ length (rows_on1 rs)
    → n ≤ 64 → d ≤ 64 → o₁ ≡ sets out 0 (count_bytes n) → o₂ ≡ sets o₁ 4096 (count_bytes d) → o₃ ≡ entered o₂ 16 4112 rs
    → o₄ ≡ sets o₃ (16 + 48 * n) (replicate (4096 - (16 + 48 * n)) 0) → o₅ ≡ sets o₄ (4096 + 16 + 48 * d) (replicate (8192 - (4096 + 16 + 48 * d)) 0)
    → o₅ ≡ sets out 0 (pages_of rs)
unfolding entered
pages_done out rs {n} {d} p q h k e₁ e₂ e₃ e₄ e₅ =
    let r₀ : List ListRow = rows_on0 rs in
    let r₁ : List ListRow = rows_on1 rs in
    let s₁ : 4096 - (16 + 48 * n) ≡ 4080 - 48 * length r₀ = omega arith in
    let s₂ : 8192 - (4096 + 16 + 48 * d) ≡ 4080 - 48 * length r₁ = omega arith in
    rw (e₅, e₄, e₃, e₂, e₁, s₁, s₂, p, q)
    (sorted_stores out (count_bytes (length r₀)) (entries_bytes r₀) (replicate (4080 - 48 * length r₀) 0) (count_bytes (length r₁)) (entries_bytes r₁)
    (replicate (4080 - 48 * length r₁) 0) (16 + 48 * length r₀) (4096 + 16 + 48 * length r₁)
    (count_length (length r₀))
    (omega (arith, entries_length r₀))
    (omega (arith, length-replicate {A = ℕ} (4080 - 48 * length r₀) 0))
    ∙ ap (λ (l : List ℕ). sets (sets (sets l 4096 (count_bytes (length r₁))) 4112 (entries_bytes r₁)) (4096 + 16 + 48 * length r₁) (replicate
    (4080 - 48 * length r₁) 0))
    (three_pieces out 0 r₀ (omega arith))
    ∙ three_pieces (sets out 0 (page_bytes r₀)) 4096 r₁ (omega arith)
    ∙ sets_join out 0 (page_bytes r₀) (page_bytes r₁) 4096 (omega (arith, page_length r₀ (omega arith)))
    ∙ ap (sets out 0) (sym (pages_split rs)))
