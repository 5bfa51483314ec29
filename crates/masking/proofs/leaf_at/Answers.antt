-- `masking::leaf_at` meets its contract, by what a lawful run says of its places.
use native.Mathlib.Omega.{arith}
use Rattle.masking.specs.RunLaws.{run_end, run_leaf_lem, leaf_in_run}
use Rattle.masking.proofs.leaf_at.Goals as goal

pub overflow_add-result : goal.overflow_add-result
overflow_add-result c = let run = c.run_at-run in record { fits = omega (arith, run_end run.result run.ensures.0, run_leaf_lem run.result run.ensures.0) }

pub returns-then-run : goal.returns-then-run
returns-then-run c = let run = c.run_at-run in rw c.if-run.true at (leaf_in_run run.result run.ensures.0 run.ensures.1 run.ensures.2)

pub returns-else-run : goal.returns-else-run
returns-else-run c = let run = c.run_at-run in rw c.if-run.false at (leaf_in_run run.result run.ensures.0 run.ensures.1 run.ensures.2)
