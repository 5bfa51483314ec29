-- The proof of demand 1's statements: the verdict is that of the first check that fails (StagesSettled.antt).
use Rattle.std.specs.Prelude.{◌≡◌, Bool, true, ◌||◌, List, ℕ, eqb, ltb, Err}
use Rattle.std.proofs.Common.{ap}
use Rattle.table.specs.declared.Choices.{Choices}
use Rattle.table.specs.declared.Refusal.{Refusal}
use Rattle.table.specs.Refusal.{details}
use Rattle.table.specs.Table.{empty_table}
use Rattle.finish.specs.RowsBuilt.{table_for}
use Rattle.build.specs.Build.{rows_for, answer}
use Rattle.refusals.specs.Conditions.{Check, Fault}
use Rattle.refusals.specs.Conditions.Check.{edition, length_of_pages, page_counts, reserved_bytes, required_leaves, invlpgb, components, save_area, processor_count, hyperthreading, threads_per_unit}
use Rattle.table.specs.Verdict.{Verdict}

-- ---- building

-- a refused table is empty
pub refused_empty : (chosen : Choices) (s : List ℕ) (r : Refusal) → (answer chosen s).verdict ≡ Err r → (answer chosen s).table ≡ empty_table
unfolding answer
refused_empty chosen s r e = ap (λ (v : Verdict). table_for chosen.edition v (rows_for chosen s)) e

-- ---- writing

-- the numbers that building gives
abbrev pub building_number : ℕ → Bool
building_number n = ltb n 9 || (eqb n 15 || eqb n 17)

pub fault_number : (chosen : Choices) (s : List ℕ) (c : Check) (r : Refusal) → Fault chosen s c r → building_number (details r).number ≡ true
fault_number chosen s edition r f = rw f.1
fault_number chosen s length_of_pages r f = rw f.1
fault_number chosen s page_counts r f = rw f.1
fault_number chosen s reserved_bytes r f = rw f.3
fault_number chosen s required_leaves r f = rw f.2
fault_number chosen s invlpgb r f = rw f.1
fault_number chosen s components r f = rw f.2
fault_number chosen s save_area r f = rw f.1
fault_number chosen s processor_count r f = rw f.1
fault_number chosen s hyperthreading r f = rw f.1
fault_number chosen s threads_per_unit r f = rw f.1
