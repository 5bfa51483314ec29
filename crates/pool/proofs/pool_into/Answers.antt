-- `pool::pool_into` meets its contract: the servers of lawful sets, or 18.
use mathlib.Core.Path.{sym, ◌∙◌}
use Rattle.pool.specs.PoolIn.{pool_in}
use Rattle.pool.proofs.PooledLaws.{pooled_sets}
use Rattle.pool.proofs.pool_into.Goals as goal

pub returns : goal.returns
returns c =
    pool_in (pooled_sets _ _ _ (sym c.sets_fit.ensures ∙ c.if-sets_fit.false)) c.refuse.ensures
