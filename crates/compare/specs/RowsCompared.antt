-- The rows of A that count beside the rows of B: whether B's rise from A's, or the first thing that fails. By rising leaf and subleaf: a row of A's
-- that B has not; its EAX, EBX, ECX, EDX, each as its kind asks (crates/finish/specs/Kinds.antt); a row of B's that A has not, where B may not have
-- one. Last the combined mask. Entries of two servers and tables are its two uses.
use Rattle.std.specs.Prelude.{Bool, true, false, not, ◌&&◌, ℕ, ◌-◌, eqb, leb, ltb}
use Rattle.std.specs.Int.Bits.{bit_and}
use Rattle.bits.specs.Choice.{pick}
use Rattle.bits.specs.Bits.{has}
use Rattle.bits.specs.Search.{Failing, lowest}
use Rattle.bits.specs.Search.Failing.{at, none}
use Rattle.masking.specs.Kept.{places, leaf_at}
use Rattle.masking.specs.Place
use Rattle.table.specs.Rows.{Row, Rows}
use Rattle.finish.specs.Kinds.{Kind, all_registers, kinds_at}
use Rattle.finish.specs.Kinds.Kind.{feature, feature_but28, area, freed, other}
use Rattle.rise.specs.Decide.{rises_test}
use Rattle.compare.specs.declared.search.Asked.{Asked}
use Rattle.compare.specs.declared.search.Asked.TheVariants.{Entries, Tables}
use Rattle.compare.specs.declared.search.RowsCompared.{RowsCompared}
use Rattle.compare.specs.declared.search.RowsCompared.TheVariants.{Rises, NoRow, Differs, Beyond, MaskLacks}
use Rattle.compare.specs.Registers.{registers_rise, first_to_fail, subleaf_named}
use Rattle.table.specs.declared.CpuidResults.{CpuidResults}
use Rattle.table.specs.Table.{row_in}

-- whether a register of B's table is as the conclusion has it: as for entries, but for the save area and for what is freed there
abbrev pub table_test : Kind → ℕ → ℕ → Bool
table_test feature a b = rises_test feature a b
table_test feature_but28 a b = rises_test feature_but28 a b
table_test area a b = leb a b
table_test freed a b = eqb a b
table_test other a b = eqb a b

-- whether place i is that of a subleaf of Dh, from 2 up, that the mask y has and x has not
unfoldable pub further_test : ℕ → ℕ → ℕ → Bool
further_test x y i =
    leb (Place.extended_state 2) i
    && (ltb i (Place.extended_state 64) && (has (i - Place.extended_state 0) y && not (has (i - Place.extended_state 0) x)))

-- the test of a register by its kind, where B may have a row that A has not, and what the combined masks come to
pub record Wanted : Type 0 where
  pub register : Kind → ℕ → ℕ → Bool
  pub beyond : ℕ → Bool
  pub masks : Bool

-- of entries as the hypothesis of demand 3 has it; of tables with the combined masks x and y as its conclusion does
abbrev pub wanted_by : Asked → Wanted
wanted_by Entries = record { register = rises_test; beyond = λ i. true; masks = true }
wanted_by (Tables x y) = record { register = table_test; beyond = further_test x y; masks = eqb (bit_and x y) x }

-- the rows of place i
abbrev pub row_compared : Wanted → ℕ → Row → Row → RowsCompared
row_compared w i a b =
    pick a.present
    (pick b.present
    (pick (all_registers w.register (kinds_at i) a.result b.result) Rises
    (Differs (leaf_at i) (subleaf_named i) (first_to_fail (registers_rise w.register (kinds_at i) a.result b.result))))
    (NoRow (leaf_at i) (subleaf_named i)))
    (pick b.present (pick (w.beyond i) Rises (Beyond (leaf_at i) (subleaf_named i))) Rises)

abbrev pub rises : RowsCompared → Bool
rises Rises = true
rises (NoRow leaf subleaf) = false
rises (Differs leaf subleaf register) = false
rises (Beyond leaf subleaf) = false
rises MaskLacks = false

abbrev pub place_compared : Wanted → Rows → Rows → ℕ → RowsCompared
place_compared w A B i = row_compared w i (A i) (B i)

-- whether nothing fails at place i
abbrev pub place_test : Wanted → Rows → Rows → ℕ → Bool
place_test w A B i = rises (place_compared w A B i)

abbrev pub first_failing : Failing → (ℕ → RowsCompared) → RowsCompared → RowsCompared
first_failing (at i) place last = place i
first_failing none place last = last

-- places rise by leaf, then by subleaf; last the masks
unfoldable pub rows_compared : Wanted → Rows → Rows → RowsCompared
rows_compared w A B = first_failing (lowest (place_test w A B) 0 places) (place_compared w A B) (pick w.masks Rises MaskLacks)

-- May a guest of one table move to another? What demand 3 concludes of two tables (`TableRises`, crates/rise/specs/Rise.antt), decided.
unfoldable pub compared_tables : CpuidResults → CpuidResults → RowsCompared
compared_tables a b = rows_compared (wanted_by (Tables a.max_extended_state b.max_extended_state)) (row_in a) (row_in b)
