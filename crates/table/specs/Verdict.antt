-- A verdict on pages, rows or a table: accepted, or refused by the first check that fails.
use Rattle.std.specs.Prelude.{Result}
use Rattle.table.specs.declared.Refusal.{Refusal}

abbrev pub Verdict : Type 0
Verdict = Result Unit Refusal
