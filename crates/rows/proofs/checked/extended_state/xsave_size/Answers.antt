-- `extended_state::xsave_size` meets its contract: the area so far is that of the subleaves below the bits that are left, of which each turn takes
-- the lowest.
use borrow.Author.Rules.{rules}
use mathlib.Core.Path.{sym, ap, ◌∙◌}
use mathlib.Core.Bool.{true}
use Prim.Native.Nat.{◌<◌, ◌+◌}
use lib.Count.{count_trailing_zeros}
use Rattle.x86defs.specs.declared.CpuidResult.{CpuidResult}
use Rattle.checks.specs.ExtendedState.{grown, size_of}
use Rattle.checks.specs.LowestLaws.{left_starts}
use Rattle.checks.specs.SaveAreaLaws.{growing_starts, growing_taken, growing_next, growing_overflows, growing_ends}
use Rattle.rows.proofs.checked.extended_state.xsave_size.Goals as goal
use Rattle.rows.proofs.checked.extended_state.xsave_size.Goals.{In-loop-rest}

pub loop-rest-init : goal.loop-rest-init
loop-rest-init c = growing_starts _ _ (left_starts _ (search rules))

inside : (c : In-loop-rest) → count_trailing_zeros 64 c.loop-rest.rest < 64
inside c = (growing_taken _ _ c.loop-rest.invariant c.loop-rest-test.true).inside

pub returns-in_err-area : goal.returns-in_err-area
returns-in_err-area c =
    rw c.from_residual.ensures
    (growing_overflows _ _ c.loop-rest.invariant c.loop-rest-test.true
    (sym c.in_err-area.was ∙ c.grown.ensures
    ∙ ap (λ (q : CpuidResult). size_of (grown c.loop-rest.area true (q.eax + q.ebx))) c.row_at-subleaf.ensures))

pub loop-rest-preserved : goal.loop-rest-preserved
loop-rest-preserved c =
    growing_next _ _ c.loop-rest.invariant c.loop-rest-test.true
    (sym c.in_ok-area.was ∙ c.grown.ensures
    ∙ ap (λ (q : CpuidResult). size_of (grown c.loop-rest.area true (q.eax + q.ebx))) c.row_at-subleaf.ensures)

pub returns : goal.returns
returns c = growing_ends _ _ c.loop-rest.invariant c.loop-rest-test.false
