-- `nearest::search::decisive::keeps_answer` meets its contract: the row that was there, another verdict, or the finished row.
use mathlib.Core.Path.{sym, ◌∙◌}
use Rattle.memory.specs.Memory.{rows_in}
use Rattle.rows.specs.AnsweredLaws.{checked_ready}
use Rattle.nearest.proofs.TriedLaws.{judged_there, judged_refused, judged_accepted, judged_finished, judged_ready}
use Rattle.nearest.proofs.search.decisive.keeps_answer.Goals as goal

pub returns-then-same_result : goal.returns-then-same_result
returns-then-same_result c =
    judged_there c.args.edition c.requires.0 c.row_at.ensures c.row_at-2.ensures c.same_result.ensures c.if-same_result.true

pub returns-in_default : goal.returns-in_default
returns-in_default c =
    judged_accepted c.args.edition c.requires.0 c.checks_from_invlpgb-checked.ensures c.requires.1 c.in-Ok.is c.in_default.is

pub finished_row-requires : goal.finished_row-requires
finished_row-requires c =
    let r = checked_ready (rows_in c.args.tried.now c.args.origins.now)
    (judged_ready c.args.edition c.requires.0 c.checks_from_invlpgb-checked.ensures c.requires.1 c.in-Ok.is) in
    (c.requires.0.small, r.0, r.1)

pub finished_row-requires-in-Ok : goal.finished_row-requires-in-Ok
finished_row-requires-in-Ok c =
    let r = checked_ready (rows_in c.args.registers.now c.args.origins.now) (sym c.in-Ok-found.is ∙ c.requires.1) in
    (c.requires.0.small, r.0, r.1)

pub returns-in-Err : goal.returns-in-Err
returns-in-Err c =
    judged_refused c.args.edition c.requires.0 c.checks_from_invlpgb-checked.ensures c.requires.1 c.in-Err.is c.verdict_of.ensures
    c.same_verdict.ensures

pub returns-in-Ok-found : goal.returns-in-Ok-found
returns-in-Ok-found c =
    judged_finished c.args.edition c.requires.0 c.checks_from_invlpgb-checked.ensures c.requires.1 c.in-Ok.is c.in-Ok-found.is
    c.finished_row.ensures c.finished_row-in-Ok.ensures c.same_result-in-Ok.ensures
