-- The rows of a table in lent memory, as they are put one after another: a run's next row, and the components, whose bits are taken one by one.
use Rattle.std.specs.Prelude.{◌≡◌, refl, Bool, true, false, List, ◌++◌, ℕ, zero, suc, ◌+◌, ◌-◌, ◌≤◌, ◌<◌, length, get_or}
use Rattle.std.proofs.Common.{sym, ap, ap₂, ◌∙◌, add-zero, arith}
use Rattle.std.specs.Int.Bits.{bit_and}
use Rattle.std.specs.Int.Count.{count_trailing_zeros}
use Rattle.std.proofs.lemmas.List.Edits.{sets}
use Rattle.bits.specs.Bits.{has}
use Rattle.x86defs.specs.declared.CpuidResult.{CpuidResult}
use Rattle.x86defs.specs.Functions.{ExtendedStateEnumeration}
use Rattle.masking.specs.declared.run.Run.{Run}
use Rattle.masking.specs.Kept.{kept_leaves, slot, places}
use Rattle.masking.specs.Place
use Rattle.masking.specs.Runs.{lawful_run}
use Rattle.masking.specs.RunLaws.{run_end}
use Rattle.table.specs.Table.{row_in}
use Rattle.checks.specs.LowestLaws.{Left, Taken, left_taken, left_none}
use Rattle.memory.specs.Memory.{row_of, is_there, rows_in}
use Rattle.memory.specs.Held.{held_in, whole_row_lem}
use Rattle.buffer.specs.OnwardLaws.{Onward, onward_none, onward_join, piece_room, onward_piece}
use Rattle.image.specs.Image.{place_bytes}
use Rattle.image.specs.ImagePieces.{indexed_row, rows_from, run_row}
use Rattle.image.specs.PiecesLaws.{rows_more, run_row_lem, run_indexed, indexed_length}
use Rattle.image.specs.Components.{Components}

module _ (w o : List ℕ) where
  abbrev rest : ℕ → List ℕ
  rest = rows_from (held_in w o)

  -- the row of a run's k-th place comes first of those that are left
  pub run_more : (g : Run) → lawful_run g ≡ true → (k : ℕ) → k < g.count → {b : Bool} {r : CpuidResult}
      → b ≡ is_there (get_or o (g.first + k) 0) → r ≡ row_of w (g.first + k)
      → rest (g.first + k) ≡ run_row g k b r ++ rest (g.first + k + 1)
  run_more g l k h {b} {r} e f =
      let i : ℕ = g.first + k in
      let high = run_end g l in
      let back : g.first + k - g.first ≡ k = omega arith in
      rows_more (held_in w o) i (omega arith)
      ∙ ap (λ (bytes : List ℕ). bytes ++ rest (i + 1))
      (ap (place_bytes i) (whole_row_lem (rows_in w o) i (omega arith))
      ∙ run_row_lem g l i (rows_in w o i) (omega arith) (omega arith)
      ∙ ap (λ (j : ℕ). run_row g j (is_there (get_or o i 0)) (row_of w i)) back
      ∙ ap₂ (run_row g k) (sym e) (sym f))

  -- places without a row leave nothing
  rows_skip : (i n : ℕ) → i + n ≤ places → ((j : ℕ) → i ≤ j → j < i + n → is_there (get_or o j 0) ≡ false) → rest i ≡ rest (i + n)
  rows_skip i zero h none = rw add-zero
  rows_skip i (suc n) h none =
      let q : i + suc n ≡ i + n + 1 = omega arith in
      let absent : (row_in (held_in w o) (i + n)).present ≡ false =
      ap (λ r. r.present) (whole_row_lem (rows_in w o) (i + n) (omega arith)) ∙ none (i + n) (omega arith) (omega arith) in
      rw q (rows_skip i n (omega arith) (λ j a b. none j a (omega arith)) ∙ rows_more (held_in w o) (i + n) (omega arith) ∙ rw absent)

-- where the rows that are left are the same, it is the same to stand there
onward_skip : {rest : ℕ → List ℕ} {out₀ out : List ℕ} {at₀ i₀ at i j : ℕ} → Onward rest out₀ at₀ i₀ out at i → rest i ≡ rest j
    → Onward rest out₀ at₀ i₀ out at j
onward_skip p e = record { kept = p.kept; room = rw (← e) p.room; bytes = rw (← e) p.bytes }

-- ---- the components

abbrev states : Run
states = record {
  first = Place.extended_state 0;
  count = 64;
  leaf = ExtendedStateEnumeration;
  indexed = true;
  row = 5;
  last_row = 7;
}

states_lawful : lawful_run states ≡ true
unfolding lawful_run slot kept_leaves
states_lawful = refl

-- Rows were put from that of subleaf 2 on, up to a subleaf, and `left` has the bits of the components from there up.
pub record Putting (w o : List ℕ) (x : ℕ) (out₀ : List ℕ) (at₀ : ℕ) (out : List ℕ) (at left : ℕ) : Type 0 where
  pub upto : ℕ
  pub low : 2 ≤ upto
  pub high : upto ≤ 64
  pub bits : Left x left upto
  pub onward : Onward (rows_from (held_in w o)) out₀ at₀ (Place.extended_state 2) out at (Place.extended_state upto)

module _ (w o : List ℕ) (x : ℕ) (c : Components o x) {out₀ : List ℕ} {at₀ : ℕ} where
  pub putting_starts : {left : ℕ} → Left x left 2 → Putting w o x out₀ at₀ out₀ at₀ left
  putting_starts l = record { upto = 2; low = omega arith; high = omega arith; bits = l; onward = onward_none _ _ _ _ }

  module _ {out : List ℕ} {at left : ℕ} (p : Putting w o x out₀ at₀ out at left) where
    -- the places from where writing stands up to a component before which there is none
    skipped : (z : ℕ) → p.upto ≤ z → z ≤ 64 → ((j : ℕ) → p.upto ≤ j → j < z → has j x ≡ false)
        → rows_from (held_in w o) (Place.extended_state p.upto) ≡ rows_from (held_in w o) (Place.extended_state z)
    skipped z from high none =
        let e : Place.extended_state p.upto + (z - p.upto) ≡ Place.extended_state z = omega arith in
        rows_skip w o (Place.extended_state p.upto) (z - p.upto) (omega (arith, from)) absent ∙ ap (rows_from (held_in w o)) e
      where
        absent : (i : ℕ) → Place.extended_state p.upto ≤ i → i < Place.extended_state p.upto + (z - p.upto) → is_there (get_or o i 0) ≡ false
        absent i a b =
            let e : Place.extended_state (i - Place.extended_state 0) ≡ i = omega arith in
            rw e at (c.there (i - Place.extended_state 0) (omega (arith, p.low)) (omega arith))
            ∙ none (i - Place.extended_state 0) (omega arith) (omega (arith, from))

    pub putting_ends : left ≡ 0 → Onward (rows_from (held_in w o)) out₀ at₀ (Place.extended_state 2) out at Place.extended_max_function
    putting_ends none = onward_skip p.onward (skipped 64 p.high (omega arith) (λ j a b. left_none p.bits none j a))

    module _ (some : ¬ (left ≡ 0)) where
      pub putting_taken : Taken x left p.upto (count_trailing_zeros 64 left)
      putting_taken = left_taken p.bits some

      abbrev z : ℕ
      z = count_trailing_zeros 64 left

      -- the row of the lowest component that is left comes first of those that are left
      component_more : {r : CpuidResult} → r ≡ row_of w (Place.extended_state z)
          → rows_from (held_in w o) (Place.extended_state z)
          ≡ indexed_row ExtendedStateEnumeration z r ++ rows_from (held_in w o) (Place.extended_state z + 1)
      component_more {r} e =
          let there : true ≡ is_there (get_or o (Place.extended_state z) 0) =
          sym (c.there z (omega (arith, p.low, putting_taken.from)) putting_taken.inside ∙ putting_taken.here) in
          run_more w o states states_lawful z putting_taken.inside there e
          ∙ ap (λ (bytes : List ℕ). bytes ++ rows_from (held_in w o) (Place.extended_state z + 1)) (run_indexed states z r refl refl)

      here : Onward (rows_from (held_in w o)) out₀ at₀ (Place.extended_state 2) out at (Place.extended_state z)
      here = onward_skip p.onward (skipped z putting_taken.from (omega (arith, putting_taken.inside)) putting_taken.between)

      pub putting_room : at₀ + length (rows_from (held_in w o) (Place.extended_state 2)) ≤ length out₀ → at + 25 ≤ length out
      putting_room h =
          let r : CpuidResult = row_of w (Place.extended_state z) in
          omega (
            arith,
            piece_room (rows_from (held_in w o)) (indexed_row ExtendedStateEnumeration z r) (Place.extended_state z) (component_more refl),
            indexed_length ExtendedStateEnumeration z r,
            here.room,
            here.kept,
          )

      pub putting_next : {r : CpuidResult} {out' : List ℕ} → r ≡ row_of w (Place.extended_state z)
          → out' ≡ sets out at (indexed_row ExtendedStateEnumeration z r)
          → Putting w o x out₀ at₀ out' (at + 25) (bit_and left (left - 1))
      putting_next {r} {out'} e f =
          let row : List ℕ = indexed_row ExtendedStateEnumeration z r in
          let on = onward_piece (rows_from (held_in w o)) row (Place.extended_state z) (component_more e) out out' at f in
          let one : Place.extended_state (z + 1) ≡ Place.extended_state z + 1 = omega arith in
          record {
            upto = z + 1;
            low = omega (arith, p.low, putting_taken.from);
            high = omega (arith, putting_taken.inside);
            bits = putting_taken.next;
            onward = rw one (onward_join _ here (rw (indexed_length ExtendedStateEnumeration z r) at on));
          }
