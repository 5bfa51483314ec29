-- Document 02, P1: "Rows of the image shall ascend by leaf as an unsigned number, then by subleaf." The order of rows wherever rows stand in
-- order: in an image, in a list for KVM, in a comparison.
use Rattle.std.specs.Prelude.{Bool, ◌&&◌, ◌||◌, List, [], ◌∷◌, ◌⊎◌, ◌≡◌, ℕ, ◌<◌, eqb, ltb, leb}
use Rattle.bits.specs.Choice.{pick}
use Rattle.bits.specs.Lists.{tabulate}
use Rattle.masking.specs.Kept.{places, leaf_at, subleaf_at}

-- the leaf and subleaf of place i are below those of place j
abbrev pub Precedes : ℕ → ℕ → Type 0
Precedes i j = ((leaf_at i).0 < (leaf_at j).0) ⊎ (((leaf_at i).0 ≡ (leaf_at j).0) × (subleaf_at i < subleaf_at j))

-- whether the row of place i goes before that of place j
abbrev pub goes_before : ℕ → ℕ → Bool
goes_before i j = ltb (leaf_at i).0 (leaf_at j).0 || (eqb (leaf_at i).0 (leaf_at j).0 && leb (subleaf_at i) (subleaf_at j))

-- a place put where it belongs among places in order, and places put in order
abbrev pub insert_in_order : ℕ → List ℕ → List ℕ
insert_in_order i [] = i ∷ []
insert_in_order i (j ∷ js) = pick (goes_before i j) (i ∷ j ∷ js) (j ∷ insert_in_order i js)

abbrev pub in_order : List ℕ → List ℕ
in_order [] = []
in_order (i ∷ is) = insert_in_order i (in_order is)

-- all places, in the order of their rows
unfoldable pub row_order : List ℕ
row_order = in_order (tabulate places (λ i. i))
