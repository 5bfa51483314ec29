-- The rows that are left from place i on, how many rows there are, and the whole list.
use Rattle.std.specs.Prelude.{◌≡◌, Bool, true, List, ◌++◌, ℕ, ◌+◌, ◌-◌, ◌*◌, ◌≤◌, ◌<◌, length, get_or}
use Rattle.std.proofs.Common.{sym, ap, ap₂, ◌∙◌, arith, length-append}
use Rattle.std.proofs.lemmas.List.Edits.{sets}
use Rattle.masking.specs.Kept.{places}
use Rattle.table.specs.declared.CpuidResults.{CpuidResults}
use Rattle.table.specs.Rows.{Row}
use Rattle.table.specs.Table.{row_in}
use Rattle.memory.specs.Memory.{row_of, is_there, rows_in}
use Rattle.memory.specs.Held.{held_in, whole_row_lem}
use Rattle.x86defs.specs.declared.CpuidResult.{CpuidResult}
use Rattle.buffer.specs.Front.{word_bytes}
use Rattle.masking.specs.declared.run.Run.{Run}
use Rattle.masking.specs.Runs.{lawful_run}
use Rattle.masking.specs.RunLaws.{run_end}
use Rattle.image.specs.ImagePieces.{rows_among}
use Rattle.image.specs.LengthLaws.{among_none}
use Rattle.kvm_list.specs.WordsLaws.{length_bytes}
use Rattle.kvm_list.specs.Format.{all_words}
use Rattle.kvm_list.specs.FormatLaws.{length_all}
use Rattle.kvm_list.specs.StoresLaws.{sets_join, word_length}
use Rattle.kvm_export.specs.Export.{list_rows, list_of}
use Rattle.kvm_export.specs.ExportPieces.{run_row, rows_left}
use Rattle.kvm_export.proofs.RunRowLaws.{run_row_lem}
use Rattle.kvm_export.specs.ExportListLaws.{count_from_lem, export_length, list_pieces, rows_more}

-- the first of them, by the run in which the place stands
pub run_more : (t : CpuidResults) (g : Run) → lawful_run g ≡ true → (i : ℕ) → g.first ≤ i → i < g.first + g.count
    → rows_left t i ≡ run_row g (i - g.first) (row_in t i).present (row_in t i).result ++ rows_left t (i + 1)
run_more t g h i low high = rows_more t i (omega (arith, run_end g h)) ∙ ap (λ (b : List ℕ). b ++ rows_left t (i + 1)) (run_row_lem t g h i low high)

-- the same of a table that memory holds
pub run_more_held : (w o : List ℕ) (g : Run) → lawful_run g ≡ true → (k : ℕ) → k < g.count → {b : Bool} {r : CpuidResult}
    → b ≡ is_there (get_or o (g.first + k) 0) → r ≡ row_of w (g.first + k)
    → rows_left (held_in w o) (g.first + k) ≡ run_row g k b r ++ rows_left (held_in w o) (g.first + k + 1)
run_more_held w o g l k h {b} {r} e f =
    let t : CpuidResults = held_in w o in
    let i : ℕ = g.first + k in
    let high = run_end g l in
    let back : g.first + k - g.first ≡ k = omega arith in
    run_more t g l i (omega arith) (omega arith)
    ∙ ap (λ (bytes : List ℕ). bytes ++ rows_left t (i + 1))
    (ap (λ (m : Row). run_row g (i - g.first) m.present m.result) (whole_row_lem (rows_in w o) i (omega arith))
    ∙ ap (λ (j : ℕ). run_row g j (is_there (get_or o i 0)) (row_of w i)) back
    ∙ ap₂ (run_row g k) (sym e) (sym f))

pub count_rows_lem : (t : CpuidResults) → rows_among t.present 0 places ≡ length (list_rows t)
unfolding list_rows
count_rows_lem t = omega (arith, count_from_lem t 0 places, among_none t.present 0)

pub list_size : (t : CpuidResults) {n : ℕ} → n ≡ rows_among t.present 0 places → 8 + 40 * n ≡ length (list_of t)
list_size t q = omega (arith, q, count_rows_lem t, export_length t)

pub rows_size : (t : CpuidResults) {n : ℕ} → n ≡ rows_among t.present 0 places → length (rows_left t 0) ≡ 40 * n
unfolding rows_left list_rows
rows_size t q = length_bytes (all_words (list_rows t)) ∙ omega (arith, q, count_rows_lem t, length_all (list_rows t))

pub list_done : (t : CpuidResults) (out : List ℕ) {n : ℕ} {o₁ o₂ o₃ : List ℕ} → n ≡ rows_among t.present 0 places
    → o₁ ≡ sets out 0 (word_bytes n) → o₂ ≡ sets o₁ 4 (word_bytes 0) → o₃ ≡ sets o₂ 8 (rows_left t 0) → o₃ ≡ sets out 0 (list_of t)
list_done t out {n} q e₁ e₂ e₃ =
    let a : List ℕ = word_bytes n in
    let z : List ℕ = word_bytes 0 in
    let la : length a ≡ 4 = word_length n in
    let lz : length z ≡ 4 = word_length 0 in
    rw (e₃, e₂, e₁)
    (ap (λ (m : List ℕ). sets m 8 (rows_left t 0)) (sets_join out 0 a z 4 (omega arith))
    ∙ sets_join out 0 (a ++ z) (rows_left t 0) 8 (omega (arith, length-append a z))
    ∙ ap (sets out 0) (ap (λ (m : ℕ). (word_bytes m ++ z) ++ rows_left t 0) (q ∙ count_rows_lem t) ∙ list_pieces t))
