-- A pool's table moves where its servers' tables do, as PoolMoves.antt says.
use Rattle.build.specs.Build.{answer}
use Rattle.rise.proofs.RiseProof.{demand_3}
use Rattle.rise.specs.PreorderProof.{table_rises_compose}
use Rattle.pool.specs.Sets.{set_at}
use Rattle.pool_laws.specs.PoolRight.{server_table, pool_table}
use Rattle.pool_laws.specs.PoolProof.{pool_right}
use Rattle.pool_laws.specs.PoolMoves.{PoolMoves}

pub pool_moves : PoolMoves
pool_moves c pages lengths accepted k l s rises given =
    table_rises_compose (pool_table c pages lengths) (server_table c pages lengths k) (answer c s).table
    ((pool_right c pages lengths accepted).rises k l) ((demand_3 c (set_at pages lengths k) s rises).table given)
