-- `image::components_there` meets its contract: the word so far has the bits of the subleaves from `k` up.
use native.Mathlib.Omega.{arith}
use Rattle.image.specs.ComponentsLaws.{gathered_next}
use Rattle.image.proofs.components_there.Goals as goal

pub loop-k-preserved : goal.loop-k-preserved
loop-k-preserved c =
    gathered_next c.loop-k.invariant (omega arith) (omega arith) c.is_there.ensures
