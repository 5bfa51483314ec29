-- `memory::origins::read_origin` meets its contract: below 4 a number is its case, and less 4 it is 0; from 4 on it is an entry's.
use mathlib.Core.Path.{◌≡◌, refl}
use mathlib.Core.Bool.{Bool, true, false}
use Prim.Native.Nat.{ℕ, ◌-◌, ◌/◌, ◌%◌}
use native.Mathlib.Omega.{arith}
use lib.Dec.{ltb}
use borrow.Author.Tests.{ltb-true}
use Rattle.bits.specs.Choice.{pick}
use Rattle.memory.specs.declared.origins.OriginRead.{OriginRead}
use Rattle.memory.specs.Origin.{origin_read}
use Rattle.memory.proofs.origins.read_origin.Goals as goal

abbrev read : ℕ → ℕ → OriginRead
read k e = record { origin = k; page = e / 64; position = e % 64 }

by-case : (n : ℕ) → read (pick (ltb n 4) n 2) (n - 4) ≡ origin_read n
unfolding origin_read
by-case n = go (ltb n 4) refl
  where
    go : (b : Bool) → ltb n 4 ≡ b → read (pick b n 2) (n - 4) ≡ pick b (record { origin = n; page = 0; position = 0 }) (read 2 (n - 4))
    go true e =
        let zero : n - 4 ≡ 0 = omega (arith, ltb-true n 4 e) in
        rw zero
    go false e = refl

pub returns : goal.returns
returns c = rw (c.case_of.ensures, c.entries_before-place.ensures) (by-case _)
