-- `guest::seen_at` meets its contract: each of the five places by its rule, any other as it is.
use Prim.Native.Nat.{ℕ}
use native.Mathlib.Omega.{arith}
use Rattle.guest_state.specs.State.{save_register}
use Rattle.rows.specs.Checked.{registers_in}
use Rattle.guest.specs.FindLaws.{rule_version, rule_threads, rule_cores, rule_area, rule_compact, rule_none}
use Rattle.guest.proofs.seen_at.Goals as goal
use Rattle.guest.proofs.seen_at.Goals.{Start}

abbrev area : Start → ℕ
area s = save_register (registers_in s.args.registers.now) s.args.processor.xcr0

pub returns-then-place-gt-EXTENDED_STATE_1 : goal.returns-then-place-gt-EXTENDED_STATE_1
returns-then-place-gt-EXTENDED_STATE_1 c =
    rule_none c.args.processor (area (goal.at.returns-then-place-gt-EXTENDED_STATE_1 c).Start) c.args.size c.args.place c.args.r
    (λ q. omega arith) (λ q. omega arith) (λ q. omega arith) (λ q. omega arith) (λ q. omega arith)

pub returns-in-1 : goal.returns-in-1
returns-in-1 c =
    rule_version c.args.processor (area (goal.at.returns-in-1 c).Start) c.args.size c.args.place c.args.r c.in-1.is c.see_version.ensures

pub returns-in-4 : goal.returns-in-4
returns-in-4 c =
    rule_threads c.args.processor (area (goal.at.returns-in-4 c).Start) c.args.size c.args.place c.args.r c.in-4.is c.see_level.ensures

pub returns-in-5 : goal.returns-in-5
returns-in-5 c =
    rule_cores c.args.processor (area (goal.at.returns-in-5 c).Start) c.args.size c.args.place c.args.r c.in-5.is c.see_level-in-5.ensures

pub returns-in-6 : goal.returns-in-6
returns-in-6 c =
    rule_area c.args.processor (area (goal.at.returns-in-6 c).Start) c.args.size c.args.place c.args.r c.in-6.is c.save_register.ensures c.see_size.ensures

pub returns-in-7 : goal.returns-in-7
returns-in-7 c =
    rule_compact c.args.processor (area (goal.at.returns-in-7 c).Start) c.args.size c.args.place c.args.r c.in-7.is c.see_size-in-7.ensures

pub returns-in_default : goal.returns-in_default
returns-in_default c =
    rule_none c.args.processor (area (goal.at.returns-in_default c).Start) c.args.size c.args.place c.args.r
    c.in_default.in_default-own.rest.0.0.0.0.1 c.in_default.in_default-own.rest.0.0.0.1 c.in_default.in_default-own.rest.0.0.1 c.in_default.in_default-own.rest.0.1 c.in_default.in_default-own.rest.1
