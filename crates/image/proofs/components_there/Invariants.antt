-- `image::components_there` meets its contract: the word so far has the bits of the subleaves from `k` up.
use Rattle.image.specs.ComponentsLaws.{Gathered}
use Rattle.image.proofs.components_there.Given as goal

abbrev pub invariant-loop-k : goal.invariant-loop-k
invariant-loop-k l = Gathered l.origins l.k l.components
