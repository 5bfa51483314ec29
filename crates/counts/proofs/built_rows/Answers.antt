-- `counts::built_rows` meets its contract: the ones of the mask, shifted by two, are its components.
use borrow.Author.Rules.{rules}
use mathlib.Core.Path.{refl, ap}
use native.Mathlib.Omega.{arith}
use Prim.Native.Nat.{ℕ, ◌+◌}
use Rattle.image.specs.ComponentsLaws.{ones_few}
use Rattle.counts.specs.BuiltRows.{built_rows, components_ones}
use Rattle.counts.proofs.built_rows.Goals as goal

pub returns-in-Ok : goal.returns-in-Ok
unfolding built_rows
returns-in-Ok c = rw c.in-Ok.is (ap (λ (n : ℕ). 26 + n) (components_ones _ (search rules)))

pub returns-in-Err : goal.returns-in-Err
unfolding built_rows
returns-in-Err c = rw c.in-Err.is refl

pub overflow_cast-result : goal.overflow_cast-result
overflow_cast-result c = record { fits = omega (arith, ones_few c.args.mask (search rules)) }

pub overflow_add-result : goal.overflow_add-result
overflow_add-result c = record { fits = omega (arith, ones_few c.args.mask (search rules)) }
