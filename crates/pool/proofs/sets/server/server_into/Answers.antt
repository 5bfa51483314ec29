-- `server_into` meets its contract: one return for each case of the server's answer.
use Rattle.pool.proofs.ServerLaws.{server_front, server_accepted}
use Rattle.pool.proofs.ServerLaws.{server_refused}
use Rattle.pool.proofs.sets.server.server_into.Goals as goal
use Rattle.std.proofs.lemmas.Result.{err_from_is_err_and}

pub returns-in_err-rows_into : goal.returns-in_err-rows_into
returns-in_err-rows_into c =
    let p = err_from_is_err_and c.from_residual.result c.from_residual.ensures.1 in
    rw (p.1, p.2)
    (server_front _ _ _ _ c.rows_into.ensures c.in_err-rows_into.was)

pub returns-in-Err : goal.returns-in-Err
returns-in-Err c =
    server_refused _ _ _ _ c.rows_into.ensures c.in_ok-rows_into.was c.check_rows-checked.ensures c.in-Err.is c.clear-in-Err.ensures

pub returns : goal.returns
returns c =
    server_accepted _ _ _ _ c.rows_into.ensures c.in_ok-rows_into.was c.check_rows-checked.ensures c.in_default.is
