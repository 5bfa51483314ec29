-- `masking::indexed_at` meets its contract, by what a lawful run says of its places.
use Rattle.masking.specs.RunLaws.{indexed_in_run}
use Rattle.masking.proofs.indexed_at.Goals as goal

pub returns : goal.returns
returns c = let run = c.run_at in indexed_in_run run.result run.ensures.0 run.ensures.1 run.ensures.2
