-- `carry::carry` meets its contract: the refusals in their order, then the two stores.
use native.Mathlib.Omega.{arith}
use Rattle.carry.proofs.InPlaceLaws.{in_unknown, in_back, in_refused, in_done}
use Rattle.carry.proofs.carry.Goals as goal
use Rattle.std.proofs.lemmas.Result.{err_from_is_err_and}

pub returns-else-known_edition : goal.returns-else-known_edition
returns-else-known_edition c =
    in_unknown c.args.registers.now c.args.origins.now c.args.from c.args.to c.args.xcr0 c.args.xss c.known_edition.ensures
    c.known_edition-2.ensures c.if-known_edition.false

pub returns-then-to-from : goal.returns-then-to-from
returns-then-to-from c =
    in_back c.args.registers.now c.args.origins.now c.args.from c.args.to c.args.xcr0 c.args.xss c.known_edition.ensures
    c.known_edition-2.ensures c.if-known_edition.true c.if-to-from.true

pub returns-in_err-state_in_use : goal.returns-in_err-state_in_use
returns-in_err-state_in_use c =
    let p = err_from_is_err_and c.from_residual.result c.from_residual.ensures.1 in
    rw (p.1, p.2)
    (in_refused c.args.registers.now c.args.origins.now c.args.from c.args.to c.args.xcr0 c.args.xss c.known_edition.ensures
    c.known_edition-2.ensures c.if-known_edition.true (omega arith) c.state_in_use.ensures c.in_err-state_in_use.was)

pub returns : goal.returns
returns c =
    in_done c.args.registers.now c.args.origins.now c.args.from c.args.to c.args.xcr0 c.args.xss c.known_edition.ensures
    c.known_edition-2.ensures c.if-known_edition.true (omega arith) c.state_in_use.ensures c.in_ok-state_in_use.was
    c.read_row-subleaf0.ensures c.has_bit.ensures c.between-bits.ensures c.clear_bits.ensures
