-- `nearest::search::decisive::first_bit` meets its contract: at an irrelevant place no bit decides; else the bits passed keep the answer, and the memory that
-- they are tried in has all other rows.
use mathlib.Core.Path.{◌≡◌}
use Rattle.memory.specs.Memory.{rows_in}
use Rattle.nearest.specs.WithRowLaws.{AllBut}
use Rattle.nearest.specs.BitLaws.{first_bit}
use Rattle.nearest.proofs.BitLaws.{bit_from}
use Rattle.nearest.proofs.search.decisive.first_bit.Given as goal

abbrev pub invariant-loop-n : goal.invariant-loop-n
invariant-loop-n l =
    (first_bit l.edition (rows_in l.registers l.origins) l.kept l.place l.x ≡ bit_from l.edition (rows_in l.registers l.origins) l.kept l.place l.x l.n)
    × AllBut (rows_in l.registers l.origins) l.origins l.tried l.place
