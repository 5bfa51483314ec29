-- `finish_rows` meets its contract: what the checks leave is finished, what they refuse stays.
use mathlib.Core.Path.{sym, ◌∙◌}
use Rattle.memory.specs.Memory.{rows_in}
use Rattle.rows.specs.AnsweredLaws.{checked_accepts, checked_ready, answered, tried_accepted}
use Rattle.rows.specs.HeldLaws.{held_table}
use Rattle.rows.proofs.finish_rows.Goals as goal
use Rattle.std.specs.Prelude.{Ok}

pub finish-requires : goal.finish-requires
finish-requires c =
    checked_ready (rows_in c.args.registers.now c.args.origins.now) (sym c.in_ok-checked.was ∙ c.check_rows.ensures)

pub returns : goal.returns
returns c =
    let n = c.args.edition in let w = c.args.registers.now in let o = c.args.origins.now in let m = rows_in w o in
    let ready = sym c.in_ok-checked.was ∙ c.check_rows.ensures in
    tried_accepted n m
    (answered n m (Ok tt) (checked_accepts m ready) c.finish.ensures (held_table n w o c.finish.ensures (checked_ready m ready).1.required))
