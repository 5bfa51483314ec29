-- How demand 3 compares a register of two entries, as a computed test.
use Rattle.std.specs.Prelude.{Bool, true, ◌&&◌, List, ℕ, eqb}
use Rattle.std.specs.Int.Bits.{bit_and}
use Rattle.bits.specs.Bits.{bit}
use Rattle.table.specs.declared.Choices.{Choices}
use Rattle.table.specs.Table.{row_in}
use Rattle.finish.specs.Kinds.{Kind}
use Rattle.finish.specs.Kinds.Kind.{feature, feature_but28, area, freed, other}
use Rattle.build.specs.Build.{answer}

-- whether a register of B's entry is as the hypothesis wants it
abbrev pub rises_test : Kind → ℕ → ℕ → Bool
rises_test feature a b = eqb (bit_and a b) a
rises_test feature_but28 a b = eqb (bit_and a b) a && eqb (bit 28 a) (bit 28 b)
rises_test area a b = true
rises_test freed a b = true
rises_test other a b = eqb a b

-- whether A's table has a row there
abbrev pub in_table : Choices → List ℕ → ℕ → Bool
in_table chosen a i = (row_in (answer chosen a).table i).present
