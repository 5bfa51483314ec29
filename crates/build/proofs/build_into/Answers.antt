-- `build::build_into` meets its contract: one return for each case of the answer.
use mathlib.Core.Path.{sym, ◌∙◌}
use Rattle.std.proofs.lemmas.Result.{err_from_is_err_and}
use Rattle.build.proofs.BuildLaws.{answer_refused, front_refused}
use Rattle.build.specs.InMemoryLaws.{refused_in_memory}
use Rattle.build.proofs.InMemoryLaws.{finished_verdict, answer_in_memory}
use Rattle.build.proofs.build_into.Goals as goal

pub returns-in_err-rows_into : goal.returns-in_err-rows_into
returns-in_err-rows_into c =
    let k = c.rows_into.ensures in let e = c.in_err-rows_into.was in
    let p = err_from_is_err_and c.from_residual.result c.from_residual.ensures.1 in
    rw (p.1, p.2) (refused_in_memory (answer_refused _ _ (front_refused _ _ (sym k.verdict ∙ e))) (k.refused _ e))

pub returns-in-Err : goal.returns-in-Err
returns-in-Err c =
    refused_in_memory
    (answer_refused _ _ (finished_verdict _ _ _ _ c.rows_into.ensures c.in_ok-rows_into.was c.finish_rows-verdict.ensures ∙ c.in-Err.is))
    c.clear.ensures

pub returns : goal.returns
returns c =
    answer_in_memory _ _ _ _ c.rows_into.ensures c.in_ok-rows_into.was c.finish_rows-verdict.ensures c.in_default.is
