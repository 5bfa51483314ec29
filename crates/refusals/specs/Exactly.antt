-- Demand 1: one table or one of the refusals, each under exactly its condition, and a refused write changes no lent byte. "Demand 1's list takes
-- in this [15] and any later number that building gives" (document 02, P7).
use Rattle.std.specs.Prelude.{◌≡◌, List, ◌↔◌, ℕ, ◌<◌, Err, Ok}
use Rattle.table.specs.declared.Choices.{Choices}
use Rattle.table.specs.declared.Refusal.{Refusal}
use Rattle.table.specs.Table.{empty_table}
use Rattle.build.specs.Build.{answer}
use Rattle.buffer.specs.WritesExactly.{FrontExactly}
use Rattle.image.specs.Image.{image}
use Rattle.image.specs.Write.{write}
use Rattle.refusals.specs.Conditions.{Check, rank, Fault}

-- the condition of a check holds, with these details, and no earlier one does
pub record FirstFault (chosen : Choices) (s : List ℕ) (r : Refusal) : Type 0 where
  pub check : Check
  pub fault : Fault chosen s check r
  pub first : (c : Check) (q : Refusal) → rank c < rank check → Fault chosen s c q → ⊥

-- building
pub record BuildsExactly (chosen : Choices) (s : List ℕ) : Type 0 where
  pub accepted : ((answer chosen s).verdict ≡ Ok tt) ↔ ((c : Check) (r : Refusal) → Fault chosen s c r → ⊥)
  pub refused : (r : Refusal) → ((answer chosen s).verdict ≡ Err r) ↔ FirstFault chosen s r
  pub empty : (r : Refusal) → (answer chosen s).verdict ≡ Err r → (answer chosen s).table ≡ empty_table

-- the image that building gives
abbrev pub image_of : Choices → List ℕ → List ℕ
image_of chosen s = image (answer chosen s).table

-- writing: building's refusals first, then 9 exactly where the buffer is shorter than the image; every lent byte for all of them
abbrev pub WritesExactly : Choices → List ℕ → List ℕ → Type 0
WritesExactly chosen s buffer = FrontExactly (answer chosen s).verdict (image_of chosen s) buffer (write chosen s buffer)
