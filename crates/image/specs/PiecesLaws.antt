-- The pieces put together: stores one after another are one run of stores, a run gives each of its places its row, and the rows from
-- place 0 on are the image.
use Rattle.std.specs.Prelude.{◌≡◌, refl, Bool, true, false, List, [], ◌∷◌, ◌++◌, ℕ, suc, ◌+◌, ◌-◌, ◌≤◌, ◌<◌, length, set, drop}
use Rattle.std.proofs.Common.{ap, ◌∙◌, add-one, arith, drop-cons}
use Rattle.std.proofs.Math.Numerals.{towards_suc}
use Rattle.std.proofs.lemmas.List.Edits.{sets}
use Rattle.bits.specs.Choice.{pick}
use Rattle.bits.specs.Lists.{tabulate}
use Rattle.bits.specs.ListsLaws.{length_tabulate, get_d_tabulate}
use Rattle.x86defs.specs.declared.CpuidFunction.{CpuidFunction}
use Rattle.x86defs.specs.declared.CpuidResult.{CpuidResult}
use Rattle.x86defs.specs.Functions.{function}
use Rattle.masking.specs.declared.run.Run.{Run}
use Rattle.masking.specs.Kept.{places, leaf_at, indexed_at, subleaf_at}
use Rattle.masking.specs.Runs.{lawful_run}
use Rattle.masking.specs.RunLaws.{leaf_in_run, indexed_in_run, subleaf_in_run}
use Rattle.table.specs.declared.CpuidResults.{CpuidResults}
use Rattle.table.specs.Rows.{Row}
use Rattle.table.specs.Table.{row_in}
use Rattle.table.specs.Order.{row_order}
use Rattle.table.specs.OrderLaws.{row_order_lem}
use Rattle.image.specs.Image.{place_bytes, image_in, image}
use Rattle.buffer.specs.Front.{word_bytes, register_bytes}
use Rattle.image.specs.ImagePieces.{indexed_row, whole_row, rows_from, run_row}

-- ---- stores one after another

module _ (out : List ℕ) (at : ℕ) where
  nine : at + 9 ≡ suc (at + 8)
  nine = omega arith

  pub indexed_sets : (leaf : CpuidFunction) (subleaf : ℕ) (r : CpuidResult)
      → sets (sets (sets (set out at 2) (at + 1) (word_bytes leaf.0)) (at + 5) (word_bytes subleaf)) (at + 9) (register_bytes r)
      ≡ sets out at (indexed_row leaf subleaf r)
  unfolding word_bytes register_bytes indexed_row
  indexed_sets leaf subleaf r = simp (nine, towards_suc)

  pub whole_sets : (leaf : CpuidFunction) (r : CpuidResult)
      → sets (sets (set out at 1) (at + 1) (word_bytes leaf.0)) (at + 5) (register_bytes r) ≡ sets out at (whole_row leaf r)
  unfolding word_bytes register_bytes whole_row
  whole_sets leaf r = simp towards_suc

-- ---- runs

-- the row of a present place, and of an absent one
module _ (g : Run) (k : ℕ) (r : CpuidResult) where
  pub run_indexed : {present : Bool} → present ≡ true → g.indexed ≡ true → run_row g k present r ≡ indexed_row g.leaf k r
  unfolding run_row
  run_indexed p q = rw (p, q)

  pub run_whole : {present : Bool} → present ≡ true → g.indexed ≡ false → run_row g k present r ≡ whole_row (function (g.leaf.0 + k)) r
  unfolding run_row
  run_whole p q = rw (p, q)

  pub run_absent : {present : Bool} → present ≡ false → run_row g k present r ≡ []
  unfolding run_row
  run_absent p = rw p

pub indexed_length : (leaf : CpuidFunction) (subleaf : ℕ) (r : CpuidResult) → length (indexed_row leaf subleaf r) ≡ 25
unfolding indexed_row
indexed_length leaf subleaf r = refl

pub whole_length : (leaf : CpuidFunction) (r : CpuidResult) → length (whole_row leaf r) ≡ 21
unfolding whole_row
whole_length leaf r = refl

-- a place's own row, by the run in which it stands
stands_row : (b : Bool) (leaf : CpuidFunction) (k i : ℕ) (r : Row)
    → b ≡ indexed_at i → pick b leaf (function (leaf.0 + k)) ≡ leaf_at i → pick b k 0 ≡ subleaf_at i
    → place_bytes i r ≡ pick r.present (pick b (indexed_row leaf k r.result) (whole_row (function (leaf.0 + k)) r.result)) []
unfolding indexed_row whole_row
stands_row true leaf k i r p q e = rw (← p, ← q, ← e)
stands_row false leaf k i r p q e = rw (← p, ← q)

pub run_row_lem : (g : Run) → lawful_run g ≡ true → (i : ℕ) (r : Row) → g.first ≤ i → i < g.first + g.count
    → place_bytes i r ≡ run_row g (i - g.first) r.present r.result
unfolding run_row
run_row_lem g l i r low high =
    stands_row g.indexed g.leaf (i - g.first) i r (indexed_in_run g l low high) (leaf_in_run g l low high) (subleaf_in_run g l low high)

-- ---- the rows from a place on

-- the places in the order of their rows, from place i on
order_from : (i : ℕ) → i < places → drop i row_order ≡ i ∷ drop (i + 1) row_order
order_from i h =
    rw (add-one, row_order_lem)
    (drop-cons (tabulate places (λ j. j)) i 0 (rw length_tabulate h)
    ∙ ap (λ n. n ∷ drop (suc i) (tabulate places (λ j. j))) (get_d_tabulate places (λ j. j) i 0 h))

pub rows_more : (t : CpuidResults) (i : ℕ) → i < places → rows_from t i ≡ place_bytes i (row_in t i) ++ rows_from t (i + 1)
unfolding rows_from image_in
rows_more t i h = ap (λ l. image_in l t) (order_from i h)

pub rows_all : (t : CpuidResults) → rows_from t 0 ≡ image t
unfolding rows_from image
rows_all t = refl

pub rows_none : (t : CpuidResults) → rows_from t places ≡ []
unfolding rows_from image_in tabulate
rows_none t = rw row_order_lem
