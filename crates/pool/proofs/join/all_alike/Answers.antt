-- `all_alike` meets its contract: every place is alike where it has a row.
use Rattle.std.proofs.Common.{rules}
use Rattle.pool.specs.CodeLaws.{where_every}
use Rattle.pool.proofs.join.all_alike.Goals as goal

pub returns : goal.returns
returns c = where_every c.args.origins.now c.args.alike (search rules)
