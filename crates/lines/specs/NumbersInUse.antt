-- Document 02, P6: "for every number in use by then", and "only where that number names it". Every number in use has its row here: 1 to 9 from
-- document 01, "Where each check stands", 10 to 12 from P2, 13 and 14 from P3, 15 from P7, 16 from P8, 17 from P10,
-- 18 and 19 from P12, 20 from P13. A later number adds its row.
use Rattle.std.specs.Prelude.{true, false, List, [], ◌∷◌, ℕ, get_or}
use Rattle.lines.specs.declared.bytes.names.Named.{Named}

abbrev pub not_in_use : Named
not_in_use = record { used = false; leaf = false; subleaf = false; s = false }

abbrev nothing : Named
nothing = record { used = true; leaf = false; subleaf = false; s = false }

-- a leaf, and a subleaf where the leaf has them
abbrev leaf_and_subleaf : Named
leaf_and_subleaf = record { used = true; leaf = true; subleaf = true; s = false }

-- "naming leaf EAX_IN with no subleaf"
abbrev only_leaf : Named
only_leaf = record { used = true; leaf = true; subleaf = false; s = false }

abbrev only_s : Named
only_s = record { used = true; leaf = false; subleaf = false; s = true }

-- one row a number, from 0 on
unfoldable pub rows : List Named
rows =
    not_in_use ∷
    nothing ∷  -- 1
    nothing ∷  -- 2
    leaf_and_subleaf ∷  -- 3
    nothing ∷  -- 4
    nothing ∷  -- 5
    only_s ∷  -- 6
    only_s ∷  -- 7
    nothing ∷  -- 8
    nothing ∷  -- 9
    nothing ∷  -- 10
    nothing ∷  -- 11
    nothing ∷  -- 12
    nothing ∷  -- 13
    nothing ∷  -- 14
    nothing ∷  -- 15
    nothing ∷  -- 16
    only_leaf ∷  -- 17
    nothing ∷  -- 18
    nothing ∷  -- 19
    nothing ∷  -- 20
    []

-- what a number names
unfoldable pub names : ℕ → Named
names n = get_or rows n not_in_use
