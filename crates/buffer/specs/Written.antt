-- What a write answers: how many bytes were written, or the refusal that kept any from being written.
use Rattle.std.specs.Prelude.{ℕ, Result}
use Rattle.table.specs.declared.Refusal.{Refusal}

abbrev pub Written : Type 0
Written = Result ℕ Refusal
