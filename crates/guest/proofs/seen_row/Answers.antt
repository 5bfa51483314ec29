-- `guest::seen_row` meets its contract: a lookup in the guest's table is the asked row changed by its rule.
use mathlib.Core.Path.{refl, ap, ◌∙◌}
use Prim.Native.Nat.{◌<◌}
use native.Mathlib.Omega.{arith}
use borrow.Author.Tests.{ltb-true}
use Rattle.masking.specs.Kept.{places}
use Rattle.x86defs.specs.declared.CpuidResult.{CpuidResult}
use Rattle.table.specs.Rows.{row}
use Rattle.lookup.specs.Lookup.{place_asked}
use Rattle.lookup.specs.AskedLaws.{asked_place, asked_past}
use Rattle.guest_state.specs.State.{save_register}
use Rattle.rows.specs.Checked.{registers_in}
use Rattle.guest.specs.Guest.{seen_at}
use Rattle.guest.specs.FindLaws.{seen_there, seen_absent, seen_past}
use Rattle.guest.proofs.seen_row.Goals as goal
use Rattle.guest.proofs.seen_row.Goals.{In_ok-place}

inside : (c : In_ok-place) → c.in_ok-place.place < places
inside c = ltb-true c.in_ok-place.place places (rw c.in_ok-place.was at c.requires)

pub returns-then-is_there : goal.returns-then-is_there
returns-then-is_there c l sub enforce e =
    let area = save_register (registers_in c.args.registers.now) c.args.processor.xcr0 in
    seen_there c.args.registers.now c.args.origins.now c.args.processor c.args.size l sub enforce
    (asked_place (place_asked l sub enforce) e c.in_ok-place.was) (inside (goal.at.returns-then-is_there c).In_ok-place) c.is_there.ensures c.if-is_there.true
    (c.seen_at.ensures ∙ ap (λ (q : CpuidResult). seen_at c.args.processor area c.args.size c.in_ok-place.place (row q)) c.row_at-r.ensures)

pub returns : goal.returns
returns c l sub enforce e =
    seen_absent c.args.registers.now c.args.origins.now c.args.processor c.args.size l sub enforce
    (asked_place (place_asked l sub enforce) e c.in_ok-place.was) (inside (goal.at.returns c).In_ok-place) c.is_there.ensures c.if-is_there.false

pub returns-in_err-place : goal.returns-in_err-place
returns-in_err-place c l sub enforce e =
    rw c.from_residual.ensures
    (seen_past c.args.registers.now c.args.origins.now c.args.processor c.args.size l sub enforce refl
    (asked_past (place_asked l sub enforce) e c.in_err-place.was))

pub offset_bounds-origins-place : goal.offset_bounds-origins-place
offset_bounds-origins-place c = record { fits = omega (arith, inside (goal.at.offset_bounds-origins-place c).In_ok-place) }

pub bounds-origins-place : goal.bounds-origins-place
bounds-origins-place c = inside (goal.at.bounds-origins-place c).In_ok-place

pub row_at-r-requires : goal.row_at-r-requires
row_at-r-requires c = inside (goal.at.row_at-r-requires c).In_ok-place
