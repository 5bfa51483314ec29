-- `nearest::search::irrelevant::verdict_of` meets its contract: by what the checks found.
use Rattle.std.proofs.lemmas.Result.{err_from_is_err_and}
use Rattle.nearest.proofs.search.irrelevant.verdict_of.Goals as goal

pub returns : goal.returns
returns c = rw c.in_ok-checked.was

pub returns-in_err-checked : goal.returns-in_err-checked
returns-in_err-checked c =
    let p = err_from_is_err_and c.from_residual.result c.from_residual.ensures.1 in
    rw (p.1, p.2, c.in_err-checked.was)
