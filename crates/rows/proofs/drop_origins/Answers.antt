-- `drop_origins` meets its contract: what is left to be made zeros gives what all gives.
use Rattle.std.proofs.Common.{◌∙◌, sym, arith, length-set}
use Rattle.rows.specs.DropLaws.{empty_origin, empty_origins_end}
use Rattle.rows.proofs.drop_origins.Goals as goal

pub loop-k-preserved : goal.loop-k-preserved
loop-k-preserved c = (
  empty_origin c.loop-k.k c.args.to c.loop-k-test.true c.loop-k.origins ∙ c.loop-k.invariant.0,
  length-set c.loop-k.origins _ _ ∙ c.loop-k.invariant.1,
)

pub returns : goal.returns
returns c = sym (empty_origins_end c.loop-k.k c.args.to (omega arith) c.loop-k.origins) ∙ c.loop-k.invariant.0
