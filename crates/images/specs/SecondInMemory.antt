-- Document 02, P8 in lent memory: "The new table must equal what edition 2 would have made of the original pages". Memory in which pages were built
-- and accepted under edition 1, once it is carried, is memory in which they were built under edition 2, every word and origin.
use Rattle.std.specs.Prelude.{◌≡◌, List, ℕ, Ok}
use Rattle.std.proofs.Common.{sym, ap, ◌∙◌, subst}
use Rattle.table.specs.declared.Choices.{Choices}
use Rattle.table.specs.declared.CpuidResults.{CpuidResults}
use Rattle.table.specs.Table.{row_in}
use Rattle.memory.specs.Memory.{layout}
use Rattle.memory.specs.Held.{held_in}
use Rattle.build.specs.Build.{answer, InMemory}
use Rattle.rise.specs.Rise.{with_edition}
use Rattle.carry.specs.Carry.{carry}
use Rattle.carry.specs.CarriedInPlace.{left_by, CarriedIn}
use Rattle.rise.proofs.SecondProof.{second_edition}
use Rattle.images.specs.Moves.{table_under}
use Rattle.table.specs.Verdict.{Verdict}

-- built under edition 1 with the verdict v, and carried with the verdict d
abbrev pub SecondInMemory : Type 0
SecondInMemory = (c : Choices) (s : List ℕ) (v : Verdict) (w o : List ℕ) → InMemory (answer (with_edition c 1) s) v w o → v ≡ Ok tt
    → (xcr0 xss : ℕ) (d : Verdict) (w₁ : List ℕ) → CarriedIn (carry (held_in w o) 1 2 xcr0 xss) d w o w₁ → d ≡ Ok tt
    → InMemory (answer (with_edition c 2) s) d w₁ o
