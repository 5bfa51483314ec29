-- `guest_state::compact_size` meets its contract: the size so far is that of the subleaves below the bits that are left, of which each turn takes the
-- lowest.
use borrow.Author.Rules.{rules}
use mathlib.Core.Path.{ap, ◌∙◌}
use mathlib.Core.Bool.{true}
use Prim.Native.Nat.{◌<◌}
use lib.Count.{count_trailing_zeros}
use Rattle.x86defs.specs.declared.CpuidResult.{CpuidResult}
use Rattle.guest_state.specs.Compact.{placed}
use Rattle.checks.specs.LowestLaws.{left_starts}
use Rattle.guest_state.proofs.CompactLaws.{placing_starts, placing_taken, placing_next, placing_ends}
use Rattle.guest_state.proofs.compact_size.Goals as goal
use Rattle.guest_state.proofs.compact_size.Goals.{In-loop-rest}

pub loop-rest-init : goal.loop-rest-init
loop-rest-init c = placing_starts _ _ (left_starts _ (search rules))

-- a turn takes the lowest bit
inside : (c : In-loop-rest) → count_trailing_zeros 64 c.loop-rest.rest < 64
inside c = (placing_taken _ _ c.loop-rest.invariant c.loop-rest-test.true).inside

pub loop-rest-preserved : goal.loop-rest-preserved
loop-rest-preserved c =
    placing_next _ _ c.loop-rest.invariant c.loop-rest-test.true
    (c.place_component-size.ensures.value ∙ ap (λ (q : CpuidResult). placed true q c.loop-rest.size) c.read_row-subleaf.ensures)
    c.place_component-size.ensures.small

pub returns : goal.returns
returns c = placing_ends _ _ c.loop-rest.invariant c.loop-rest-test.false
