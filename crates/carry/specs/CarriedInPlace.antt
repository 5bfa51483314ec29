-- Document 02, P8 in lent memory: what carrying leaves there.
use Rattle.std.specs.Prelude.{◌≡◌, List, ℕ, Err, Ok}
use Rattle.table.specs.Table.{row_in}
use Rattle.memory.specs.Memory.{layout}
use Rattle.memory.specs.Held.{held_in}
use Rattle.carry.specs.declared.Carried.{Carried}
use Rattle.table.specs.Verdict.{Verdict}

-- the registers of the carried table; a refusal leaves the memory as it was
abbrev pub left_by : Verdict → Carried → List ℕ → List ℕ
left_by (Ok _) c w = layout (λ i. (row_in c.table i).result)
left_by (Err r) c w = w

-- v is the verdict, and w became w₁; the origins o are lent to be read alone. Where it is carried, the memory holds the carried table, count and mask
-- too.
pub record CarriedIn (c : Carried) (v : Verdict) (w o w₁ : List ℕ) : Type 0 where
  pub verdict : v ≡ c.verdict
  pub registers : w₁ ≡ left_by c.verdict c w
  pub table : v ≡ Ok tt → held_in w₁ o ≡ c.table
