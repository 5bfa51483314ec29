-- `guest::from_pages::guest_pages` meets its contract: building's refusal, or what the guest sees of the table that was built.
use Rattle.guest.proofs.GuestPagesLaws.{seen_refused, seen_given}
use Rattle.guest.proofs.from_pages.guest_pages.Goals as goal
use Rattle.std.proofs.lemmas.Result.{err_from_is_err_and}

pub returns-in_err-build_into : goal.returns-in_err-build_into
returns-in_err-build_into c =
    let p = err_from_is_err_and c.from_residual.result c.from_residual.ensures.1 in
    rw (p.1, p.2)
    (seen_refused _ _ c.args.processor c.build_into.ensures c.in_err-build_into.was)

pub returns : goal.returns
returns c =
    seen_given _ _ c.args.processor c.build_into.ensures c.in_ok-build_into.was c.guest_table.ensures

pub build_into-requires : goal.build_into-requires
build_into-requires c = c.clear.ensures
