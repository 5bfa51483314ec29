-- One row of a list as it is written, and the row that a run gives a place.
use Rattle.std.specs.Prelude.{◌≡◌, refl, Bool, List, [], ◌++◌, ℕ, ◌+◌, ◌-◌, replicate}
use Rattle.std.proofs.Common.{ap, ◌∙◌}
use Rattle.std.proofs.Math.Bool.{true, false}
use native.Mathlib.Omega.{arith}
use Rattle.std.proofs.Math.ListN.{length}
use Rattle.std.proofs.lemmas.List.Edits.{sets}
use Rattle.bits.specs.Choice.{pick}
use Rattle.x86defs.specs.declared.CpuidFunction.{CpuidFunction}
use Rattle.x86defs.specs.declared.CpuidResult.{CpuidResult}
use Rattle.x86defs.specs.Functions.{function}
use Rattle.masking.specs.declared.run.Run.{Run}
use Rattle.masking.specs.Kept.{leaf_at, indexed_at, subleaf_at}
use Rattle.table.specs.declared.CpuidResults.{CpuidResults}
use Rattle.table.specs.Table.{row_in}
use Rattle.buffer.specs.Front.{word_bytes, register_bytes}
use Rattle.kvm_list.specs.Words.{bytes_of_words}
use Rattle.kvm_list.specs.Format.{row_words}
use Rattle.kvm_list.specs.StoresLaws.{five_pieces, word_length, registers_length}
use Rattle.kvm_export.specs.Export.{list_row}
use Rattle.kvm_export.specs.ExportPieces.{row_bytes, run_row}

-- ---- one row

row_pieces : (leaf index flags : ℕ) (r : CpuidResult)
    → (((word_bytes leaf ++ word_bytes index) ++ word_bytes flags) ++ register_bytes r) ++ replicate 12 0 ≡ row_bytes leaf index flags r
unfolding word_bytes register_bytes row_bytes bytes_of_words
row_pieces leaf index flags r = refl

row_length : (leaf index flags : ℕ) (r : CpuidResult) → length (row_bytes leaf index flags r) ≡ 40
unfolding row_bytes bytes_of_words
row_length leaf index flags r = refl

pub row_done : (out : List ℕ) (at leaf index flags : ℕ) (r : CpuidResult) {o₁ o₂ o₃ o₄ o₅ : List ℕ}
    → o₁ ≡ sets out at (word_bytes leaf) → o₂ ≡ sets o₁ (at + 4) (word_bytes index) → o₃ ≡ sets o₂ (at + 8) (word_bytes flags)
    → o₄ ≡ sets o₃ (at + 12) (register_bytes r) → o₅ ≡ sets o₄ (at + 28) (replicate (at + 40 - (at + 28)) 0)
    → o₅ ≡ sets out at (row_bytes leaf index flags r)
row_done out at leaf index flags r e₁ e₂ e₃ e₄ e₅ =
    let s : at + 40 - (at + 28) ≡ 12 = omega arith in
    let l₁ : length (word_bytes leaf) ≡ 4 = word_length leaf in
    let l₂ : length (word_bytes index) ≡ 4 = word_length index in
    let l₃ : length (word_bytes flags) ≡ 4 = word_length flags in
    let l₄ : length (register_bytes r) ≡ 16 = registers_length r in
    rw (e₅, e₄, e₃, e₂, e₁, s)
    (five_pieces out at (word_bytes leaf) (word_bytes index) (word_bytes flags) (register_bytes r) (replicate 12 0) (at + 4) (at + 8) (at + 12) (at + 28)
    (omega arith) (omega arith) (omega arith) (omega arith)
    ∙ ap (sets out at) (row_pieces leaf index flags r))

-- ---- a place of a run

module _ (g : Run) (k : ℕ) (r : CpuidResult) (out : List ℕ) (at : ℕ) where
  pub run_indexed : {p : Bool} {out' : List ℕ} → p ≡ true → g.indexed ≡ true → out' ≡ sets out at (row_bytes g.leaf.0 k 1 r)
      → (at + 40 ≡ at + length (run_row g k p r)) × (out' ≡ sets out at (run_row g k p r))
  unfolding run_row
  run_indexed p q w = rw (p, q) (omega (arith, row_length g.leaf.0 k 1 r), w)

  pub run_whole : {p : Bool} {out' : List ℕ} → p ≡ true → g.indexed ≡ false → out' ≡ sets out at (row_bytes (g.leaf.0 + k) 0 0 r)
      → (at + 40 ≡ at + length (run_row g k p r)) × (out' ≡ sets out at (run_row g k p r))
  unfolding run_row
  run_whole p q w = rw (p, q) (omega (arith, row_length (g.leaf.0 + k) 0 0 r), w)

  pub run_absent : {p : Bool} → p ≡ false → (at ≡ at + length (run_row g k p r)) × (out ≡ sets out at (run_row g k p r))
  unfolding run_row
  run_absent p = rw p (omega arith, refl)

  pub run_length : {p : Bool} → p ≡ true → length (run_row g k p r) ≡ 40
  unfolding run_row
  run_length p = rw p (go g.indexed)
    where
      go : (b : Bool) → length (pick b (row_bytes g.leaf.0 k 1 r) (row_bytes (g.leaf.0 + k) 0 0 r)) ≡ 40
      go true = row_length g.leaf.0 k 1 r
      go false = row_length (g.leaf.0 + k) 0 0 r

-- what place i writes
abbrev pub place_bytes : CpuidResults → ℕ → List ℕ
place_bytes t i = pick (row_in t i).present (bytes_of_words (row_words (list_row i (row_in t i).result))) []

pub stands_row : (b : Bool) (leaf : CpuidFunction) (k i : ℕ) (p : Bool) (r : CpuidResult)
    → b ≡ indexed_at i → pick b leaf (function (leaf.0 + k)) ≡ leaf_at i → pick b k 0 ≡ subleaf_at i
    → pick p (bytes_of_words (row_words (list_row i r))) [] ≡ pick p (pick b (row_bytes leaf.0 k 1 r) (row_bytes (leaf.0 + k) 0 0 r)) []
unfolding row_bytes
stands_row true leaf k i p r e f g = rw (← e, ← f, ← g)
stands_row false leaf k i p r e f g = rw (← e, ← f, ← g)
