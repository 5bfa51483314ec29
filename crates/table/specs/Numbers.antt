-- Document 01's number and details of each answer (crates/table/specs/Refusal.antt) as plain numbers: 0 for accepted, and a flag for
-- whether a subleaf is named.
use Rattle.std.specs.Prelude.{Bool, ℕ, Err, None, Ok, Option, Some}
use Rattle.bits.specs.Choice.{pick}
use Rattle.topology.specs.declared.TopologyError.{TopologyError}
use Rattle.table.specs.declared.Refusal.{Refusal}
use Rattle.table.specs.Refusal.{Details, details, topology_details}
use Rattle.table.specs.declared.numbers.AnswerNumbers.{AnswerNumbers}
use Rattle.table.specs.Verdict.{Verdict}

abbrev pub named : Option ℕ → ℕ
named None = 0
named (Some k) = 1

abbrev pub subleaf_or0 : Option ℕ → ℕ
subleaf_or0 None = 0
subleaf_or0 (Some k) = k

-- the subleaf of a flag and a number
abbrev pub subleaf_of : Bool → ℕ → Option ℕ
subleaf_of has k = pick has (Some k) None

abbrev pub detail_numbers : Details → AnswerNumbers
detail_numbers d = record { number = d.number; leaf = d.leaf; has_subleaf = named d.subleaf; subleaf = subleaf_or0 d.subleaf; s = d.s }

abbrev pub topology_numbers : TopologyError → AnswerNumbers
topology_numbers e = detail_numbers (topology_details e)

abbrev pub leaf_numbers : ℕ → ℕ → Option ℕ → AnswerNumbers
leaf_numbers number leaf subleaf = detail_numbers (record { number = number; leaf = leaf; subleaf = subleaf; s = 0 })

abbrev pub refusal_numbers : Refusal → AnswerNumbers
refusal_numbers r = detail_numbers (details r)

abbrev pub numbers_of : Verdict → AnswerNumbers
numbers_of (Ok _) = record { number = 0; leaf = 0; has_subleaf = 0; subleaf = 0; s = 0 }
numbers_of (Err r) = refusal_numbers r
