-- `guest::guest_find` meets its contract: the state's refusal, or the row found in the guest's table.
use mathlib.Core.Path.{ap, ◌∙◌}
use Rattle.lookup.specs.Lookup.{place_asked}
use Rattle.lookup.specs.AskedLaws.{asked_is_place}
use Rattle.guest.specs.FindLaws.{found_refused, kept_found}
use Rattle.guest.proofs.guest_find.Goals as goal
use Rattle.std.proofs.lemmas.Result.{err_from_is_err_and}
use Rattle.std.specs.Prelude.{Ok}

pub seen_row-requires : goal.seen_row-requires
seen_row-requires c =
    asked_is_place (place_asked c.args.leaf c.args.subleaf c.args.enforce_subleaf) c.place_asked-asked.ensures

pub returns-in_err-size : goal.returns-in_err-size
returns-in_err-size c =
    let p = err_from_is_err_and c.from_residual.result c.from_residual.ensures.1 in
    rw (p.1, p.2)
    (found_refused c.args.registers.now c.args.origins.now c.args.processor c.state_in_use.ensures c.args.leaf c.args.subleaf c.args.enforce_subleaf
    c.in_err-size.was)

pub returns : goal.returns
returns c =
    ap Ok (c.seen_row.ensures _ _ _ c.place_asked-asked.ensures)
    ∙ kept_found c.args.registers.now c.args.origins.now c.args.processor c.state_in_use.ensures c.args.leaf c.args.subleaf c.args.enforce_subleaf
    c.in_ok-size.was
