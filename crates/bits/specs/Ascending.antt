-- A list in order, for any relation `Before`: each element stands before all after it.
use Rattle.std.specs.Prelude.{List, [], ◌∷◌}

abbrev pub BeforeAll : {A : Type 0} → (A → A → Type 0) → A → List A → Type 0
BeforeAll Before a [] = Unit
BeforeAll Before a (b ∷ bs) = Before a b × BeforeAll Before a bs

abbrev pub Ascending : {A : Type 0} → (A → A → Type 0) → List A → Type 0
Ascending Before [] = Unit
Ascending Before (a ∷ rest) = BeforeAll Before a rest × Ascending Before rest
