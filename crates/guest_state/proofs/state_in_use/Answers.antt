-- `guest_state::state_in_use` meets its contract: 13 where a state is not allowed, 14 where the size passes 32 bits, else the size.
use mathlib.Core.Path.{◌≡◌, ap, ap₂, ◌∙◌}
use Prim.Native.Nat.{ℕ}
use native.Mathlib.Omega.{arith}
use Rattle.x86defs.specs.declared.CpuidResult.{CpuidResult}
use Rattle.table.specs.Rows.{Rows}
use Rattle.checks.specs.ExtendedState.{xfem, xss, xss_of}
use Rattle.guest_state.specs.State.{allowed}
use Rattle.guest_state.specs.StateLaws.{state_beyond, state_large, state_accepted}
use Rattle.guest_state.specs.InUse.{read_rows}
use Rattle.guest_state.specs.InUseLaws.{use_refused, use_given}
use Rattle.guest_state.proofs.state_in_use.Goals as goal
use Rattle.guest_state.proofs.state_in_use.Goals.{After-is_allowed, Start}

abbrev rows : Start → Rows
rows c = read_rows c.args.absent_as_zero c.args.registers.now c.args.origins.now

abbrev start : After-is_allowed → Start
start c = c.before.before.before.before

tested : (c : After-is_allowed)
    → c.is_allowed.result ≡ allowed (xfem (rows (start c))) (xss (rows (start c))) (start c).args.xcr0 (start c).args.xss
unfolding xfem xss
tested c =
    c.is_allowed.ensures
    ∙ ap₂ (λ (f t : ℕ). allowed f t c.args.xcr0 c.args.xss) (ap (λ (q : CpuidResult). q.eax) c.read_row-subleaf0.ensures)
    (c.max_xss.ensures ∙ ap xss_of c.read_row-subleaf1.ensures)

pub returns-then-size-gt-LARGEST : goal.returns-then-size-gt-LARGEST
returns-then-size-gt-LARGEST c =
    let s = start (goal.at.returns-then-size-gt-LARGEST c).After-is_allowed in
    use_refused (rows s) s.args.xcr0 s.args.xss
    (state_large (rows s) s.args.xcr0 s.args.xss (tested (goal.at.returns-then-size-gt-LARGEST c).After-is_allowed) c.compact_register-size.ensures c.if-is_allowed.true (omega arith))

pub returns-then-is_allowed : goal.returns-then-is_allowed
returns-then-is_allowed c =
    let s = start (goal.at.returns-then-is_allowed c).After-is_allowed in
    use_given (rows s) s.args.xcr0 s.args.xss
    (state_accepted (rows s) s.args.xcr0 s.args.xss (tested (goal.at.returns-then-is_allowed c).After-is_allowed) c.compact_register-size.ensures c.if-is_allowed.true (omega arith))
    c.compact_register-size.ensures

pub returns : goal.returns
returns c =
    let s = start (goal.at.returns c).After-is_allowed in
    use_refused (rows s) s.args.xcr0 s.args.xss
    (state_beyond (rows s) s.args.xcr0 s.args.xss (tested (goal.at.returns c).After-is_allowed) c.if-is_allowed.false)
