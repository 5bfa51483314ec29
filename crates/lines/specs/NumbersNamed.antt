-- The table of numbers (NumbersInUse.antt) against the refusals (crates/table/specs/Refusal.antt): a number is in use exactly
-- where a refusal has it, and names a leaf, a subleaf or s exactly where some refusal with that number sets one.
use Rattle.std.specs.Prelude.{◌≡◌, true, ◌↔◌, ◌≢◌, ℕ, Some}
use Rattle.table.specs.declared.Refusal.{Refusal}
use Rattle.table.specs.Refusal.{details}
use Rattle.lines.specs.NumbersInUse.{names}

-- a refusal with this number
abbrev pub Numbered : ℕ → Refusal → Type 0
Numbered n r = (details r).number ≡ n

pub record NamesExactly (n : ℕ) : Type 0 where
  pub used : ((names n).used ≡ true) ↔ ((r : Refusal) × Numbered n r)
  pub leaf : ((names n).leaf ≡ true) ↔ ((r : Refusal) × Numbered n r × ((details r).leaf ≢ 0))
  pub subleaf : ((names n).subleaf ≡ true) ↔ ((r : Refusal) × Numbered n r × ((k : ℕ) × ((details r).subleaf ≡ Some k)))
  pub s : ((names n).s ≡ true) ↔ ((r : Refusal) × Numbered n r × ((details r).s ≢ 0))
