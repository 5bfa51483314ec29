-- A refusal's output from its plain numbers.
use Rattle.std.specs.Prelude.{List, [], ◌∷◌, ◌++◌, ℕ, eqb}
use Rattle.bits.specs.Choice.{pick}
use Rattle.table.specs.declared.numbers.AnswerNumbers.{AnswerNumbers}
use Rattle.buffer.specs.Front.{bytes_of}

abbrev pub code_of : AnswerNumbers → ℕ
code_of n = pick (eqb n.has_subleaf 0) 0xFFFFFFFF n.subleaf

abbrev pub number_bytes : AnswerNumbers → List ℕ
number_bytes n = 3 ∷ n.number ∷ bytes_of n.leaf ++ bytes_of (code_of n) ++ (n.s ∷ [])
