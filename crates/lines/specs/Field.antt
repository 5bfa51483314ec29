-- A field: digits up to the first byte below '0', as a space and a newline are. Any bytes are taken for digits.
use Rattle.std.specs.Prelude.{List, [], ◌∷◌, ℕ, ltb}
use Rattle.bits.specs.Choice.{pick}
use Rattle.lines.specs.Digits.{more}

-- the number that a field's digits stand for, after those of n
unfoldable pub field_from : ℕ → ℕ → List ℕ → ℕ
field_from base n [] = n
field_from base n (b ∷ bs) = pick (ltb b 48) n (field_from base (more base n b) bs)

-- what stands after a field and the byte that ends it
unfoldable pub after : List ℕ → List ℕ
after [] = []
after (b ∷ bs) = pick (ltb b 48) bs (after bs)
