-- May a guest of server A move to server B? The hypothesis of demand 3 (crates/rise/specs/Rise.antt), decided, or the first thing that
-- fails: A's own refusal; then B's length, its counts, its reserved bytes; then, among the rows of A's table that come from an entry, by rising
-- leaf and subleaf, whether B has a first counted entry, and its EAX, EBX, ECX, EDX (crates/compare/specs/RowsCompared.antt).
use Rattle.std.specs.Prelude.{Bool, ◌&&◌, List, ℕ, Err, Ok}
use Rattle.table.specs.declared.Choices.{Choices}
use Rattle.table.specs.Rows.{Rows}
use Rattle.finish.specs.Finish.{rule_at}
use Rattle.finish.specs.Kinds.{from_entry}
use Rattle.build.specs.Build.{rows_for, answer}
use Rattle.collect.specs.Lawful.{lawful_verdict}
use Rattle.rise.specs.Decide.{in_table}
use Rattle.compare.specs.declared.search.Asked.TheVariants.{Entries}
use Rattle.compare.specs.declared.search.RowsCompared.{RowsCompared}
use Rattle.compare.specs.declared.search.RowsCompared.TheVariants.{Rises as RowsRise, NoRow, Differs as RowDiffers, Beyond, MaskLacks}
use Rattle.compare.specs.RowsCompared.{wanted_by, rows_compared}
use Rattle.compare.specs.declared.Compared.{Compared}
use Rattle.compare.specs.declared.Compared.TheVariants.{Rises, RefusedA, UnlawfulB, NoEntry, Differs}
use Rattle.table.specs.Verdict.{Verdict}

-- the rows that are asked for, those of A's table that come from an entry, each as A's entry has it
abbrev pub asked_rows : (ℕ → Bool) → Rows → Rows
asked_rows in_a A i = record { present = from_entry (rule_at i) && in_a i; result = (A i).result }

-- B may have any further entry, and of masks nothing is asked: the last two are never given
abbrev pub entries_named : RowsCompared → Compared
entries_named RowsRise = Rises
entries_named (NoRow leaf subleaf) = NoEntry leaf subleaf
entries_named (RowDiffers leaf subleaf register) = Differs leaf subleaf register
entries_named (Beyond leaf subleaf) = Rises
entries_named MaskLacks = Rises

unfoldable pub compared_rows : (ℕ → Bool) → Rows → Rows → Compared
compared_rows in_a A B = entries_named (rows_compared (wanted_by Entries) (asked_rows in_a A) B)

abbrev pub after_a : Verdict → Compared → Compared
after_a (Ok _) c = c
after_a (Err r) c = RefusedA r

abbrev pub after_b : Verdict → Compared → Compared
after_b (Ok _) c = c
after_b (Err r) c = UnlawfulB r

unfoldable pub compared : Choices → List ℕ → List ℕ → Compared
compared chosen a b = after_a (answer chosen a).verdict (after_b (lawful_verdict b) (compared_rows (in_table chosen a) (rows_for chosen a) (rows_for chosen b)))
