-- `pool::refuse` meets its contract: cleared memory is the refused pool's.
use Rattle.pool.specs.PoolIn.{refused_in}
use Rattle.pool.proofs.refuse.Goals as goal

pub returns : goal.returns
returns c =
    refused_in c.args.r c.args.server c.clear.ensures.0 c.clear.ensures.1
