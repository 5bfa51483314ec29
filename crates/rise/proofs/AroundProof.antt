-- Servers each at least the next, and tables that rise to each other: they are the same. Laws of PreorderProof, of which must-fail edits change one.
use Rattle.std.specs.Prelude.{List, ℕ}
use Rattle.table.specs.declared.Choices.{Choices}
use Rattle.table.specs.declared.CpuidResults.{CpuidResults}
use Rattle.build.specs.Built.{SameButOrigins}
use Rattle.build.specs.Build.{answer}
use Rattle.rise.specs.Rise.{RiseHypothesis, TableRises}
use Rattle.rise.proofs.SameProof.{same_figures}
use Rattle.rise.specs.Preorder.{SameRows}
use Rattle.rise.specs.PreorderProof.{same_at, same_back}
use Rattle.rise.proofs.PreorderProof.{rises_compose}

-- three servers, each at least the next and the last at least the first, have the same answer except for origins
pub around_the_same : (chosen : Choices) (a b c : List ℕ) → RiseHypothesis chosen a b → RiseHypothesis chosen b c → RiseHypothesis chosen c a
    → SameButOrigins (answer chosen a) (answer chosen b) × SameButOrigins (answer chosen b) (answer chosen c)
around_the_same chosen a b c p q r =
    (same_figures chosen a b p (rises_compose chosen b c a q r), same_figures chosen b c q (rises_compose chosen c a b r p))

pub same_both_ways : (t u : CpuidResults) → SameRows t u → TableRises t u × TableRises u t
same_both_ways t u s = (same_at t u s, same_at u t (same_back t u s))
