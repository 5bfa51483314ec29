-- `masking::subleaf_at` meets its contract, by what a lawful run says of its places.
use Rattle.masking.specs.RunLaws.{subleaf_in_run}
use Rattle.masking.proofs.subleaf_at.Goals as goal

pub returns-then-run : goal.returns-then-run
returns-then-run c = let run = c.run_at-run in rw c.if-run.true at (subleaf_in_run run.result run.ensures.0 run.ensures.1 run.ensures.2)

pub returns-else-run : goal.returns-else-run
returns-else-run c = let run = c.run_at-run in rw c.if-run.false at (subleaf_in_run run.result run.ensures.0 run.ensures.1 run.ensures.2)
