-- The search for the first place that fails, as the loop runs: a turn passes a place or stops there; after the last place the masks decide. Of
-- rows that are the same at every place it is the same.
use Rattle.std.specs.Prelude.{◌≡◌, Bool, true, false, not, ◌&&◌, List, ℕ, zero, suc, ◌+◌, ◌-◌, ◌≤◌, ◌<◌, get_or, Option}
use Rattle.std.proofs.Math.Path.{refl, sym, ap}
use Rattle.std.proofs.Common.{ap₂, ◌∙◌, le_refl, arith}
use borrow.Author.Tests.{le-leb, lt-leb, lt-ltb, le-ltb}
use Rattle.bits.specs.Choice.{pick}
use Rattle.bits.specs.ChoiceLaws.{pick_true, pick_false}
use Rattle.bits.specs.Bits.{has}
use Rattle.bits.specs.Search.{Failing, lowest}
use Rattle.bits.specs.Search.Failing.{at, none}
use Rattle.bits.specs.SearchLaws.{lowest_at, lowest_passes, lowest_stops, lowest_ends}
use Rattle.x86defs.specs.declared.CpuidResult.{CpuidResult}
use Rattle.x86defs.specs.declared.CpuidFunction.{CpuidFunction}
use Rattle.masking.specs.Kept.{places, leaf_at}
use Rattle.masking.specs.Place
use Rattle.finish.specs.Kinds.{kinds_at}
use Rattle.compare.specs.declared.registers.Register.{Register}
use Rattle.compare.specs.declared.registers.RegistersRise.{RegistersRise}
use Rattle.compare.specs.Registers.{registers_rise, first_to_fail, subleaf_named}
use Rattle.table.specs.Rows.{Row, Rows}
use Rattle.memory.specs.Memory.{row_of, is_there, rows_in}
use Rattle.compare.specs.declared.search.RowsCompared.{RowsCompared}
use Rattle.compare.specs.declared.search.RowsCompared.TheVariants.{Rises, Differs, MaskLacks}
use Rattle.compare.specs.RowsCompared.{further_test, Wanted, rises, row_compared, place_compared, place_test, first_failing, rows_compared}

abbrev pub row_with : Bool → CpuidResult → Row
row_with p r = record { present = p; result = r }

-- a place before D.2, one of D.2 to D.63, and one after
module _ (x y i : ℕ) where
  pub further_low : i < Place.extended_state 2 → further_test x y i ≡ false
  unfolding further_test
  further_low h = rw (lt-leb (Place.extended_state 2) i h)

  pub further_state : Place.extended_state 2 ≤ i → i < Place.extended_state 64
      → further_test x y i ≡ (has (i - Place.extended_state 0) y && not (has (i - Place.extended_state 0) x))
  unfolding further_test
  further_state h l = rw (le-leb (Place.extended_state 2) i h, lt-ltb i (Place.extended_state 64) l)

  pub further_high : Place.extended_state 64 ≤ i → further_test x y i ≡ false
  unfolding further_test
  further_high h = rw (le-leb (Place.extended_state 2) i (omega arith), le-ltb i (Place.extended_state 64) h)

-- the comparison from place k on
unfoldable pub compared_from : Wanted → Rows → Rows → ℕ → RowsCompared
compared_from w A B k = first_failing (lowest (place_test w A B) k (places - k)) (place_compared w A B) (pick w.masks Rises MaskLacks)

module _ (w : Wanted) (A B : Rows) where
  pub compared_all : rows_compared w A B ≡ compared_from w A B 0
  unfolding rows_compared compared_from
  compared_all = refl

  abbrev found : Failing → RowsCompared
  found f = first_failing f (place_compared w A B) (pick w.masks Rises MaskLacks)

  pub turns_end : (k : ℕ) → places ≤ k → compared_from w A B k ≡ pick w.masks Rises MaskLacks
  unfolding compared_from
  turns_end k l = ap found (lowest_ends (place_test w A B) places k l)

  module _ (k : ℕ) (l : k < places) {a b : Row} (p : a ≡ A k) (q : b ≡ B k) {r : RowsCompared} (t : r ≡ row_compared w k a b) where
    here : r ≡ place_compared w A B k
    here = t ∙ ap₂ (row_compared w k) p q

    pub turn_passes : {p : Bool} → p ≡ rises r → p ≡ true → compared_from w A B k ≡ compared_from w A B (k + 1)
    unfolding compared_from
    turn_passes f e = ap found (lowest_passes (place_test w A B) places k l (ap rises (sym here) ∙ sym f ∙ e))

    pub turn_stops : {p : Bool} → p ≡ rises r → p ≡ false → r ≡ compared_from w A B k
    unfolding compared_from
    turn_stops f e = here ∙ sym (ap found (lowest_stops (place_test w A B) places k l (ap rises (sym here) ∙ sym f ∙ e)))

-- a place at which both have a row, by the four tests r of their registers
abbrev all_of : RegistersRise → Bool
all_of r = r.eax && (r.ebx && (r.ecx && r.edx))

module _ (w : Wanted) (i : ℕ) {a b : CpuidResult} {r : RegistersRise} (e : r ≡ registers_rise w.register (kinds_at i) a b) where
  pub row_passes : all_of r ≡ true → Rises ≡ row_compared w i (row_with true a) (row_with true b)
  row_passes t = sym (pick_true _ _ (sym (ap all_of e) ∙ t))

  pub row_fails : all_of r ≡ false → {l : CpuidFunction} {s : Option ℕ} {q : Register} → l ≡ leaf_at i → s ≡ subleaf_named i → q ≡ first_to_fail r
      → Differs l s q ≡ row_compared w i (row_with true a) (row_with true b)
  row_fails t f g h = (λ n. Differs (f n) (g n) ((h ∙ ap first_to_fail e) n)) ∙ sym (pick_false _ _ (sym (ap all_of e) ∙ t))

-- a row in memory, by what the code reads of it
pub row_read_lem : (v o : List ℕ) (k : ℕ) {p : Bool} {r : CpuidResult} → p ≡ is_there (get_or o k 0) → r ≡ row_of v k → row_with p r ≡ rows_in v o k
row_read_lem v o k e f t = record { present = e t; result = f t }

-- ---- of rows that are the same

lowest_same : (s t : ℕ → Bool) (k n : ℕ) → ((j : ℕ) → k ≤ j → j < k + n → s j ≡ t j) → lowest s k n ≡ lowest t k n
unfolding lowest
lowest_same s t k zero f = refl
lowest_same s t k (suc n) f =
    rw (f k (le_refl k) (omega arith), lowest_same s t (suc k) n (λ j l h. f j (omega arith) (omega arith)))

module _ (w : Wanted) (A B C D : Rows) (p : (i : ℕ) → i < places → A i ≡ C i) (q : (i : ℕ) → i < places → B i ≡ D i) where
  same_place : (i : ℕ) → i < places → place_compared w A B i ≡ place_compared w C D i
  same_place i l = ap₂ (row_compared w i) (p i l) (q i l)

  abbrev last : RowsCompared
  last = pick w.masks Rises MaskLacks

  same_found : (f : Failing) → lowest (place_test w A B) 0 places ≡ f
      → first_failing f (place_compared w A B) last ≡ first_failing f (place_compared w C D) last
  same_found none e = refl
  same_found (at i) e = same_place i (lowest_at (place_test w A B) 0 places i e).below

  pub rows_same : rows_compared w A B ≡ rows_compared w C D
  unfolding rows_compared
  rows_same =
      same_found (lowest (place_test w A B) 0 places) refl
      ∙ ap (λ (f : Failing). first_failing f (place_compared w C D) last)
      (lowest_same (place_test w A B) (place_test w C D) 0 places (λ j _ l. ap rises (same_place j l)))
