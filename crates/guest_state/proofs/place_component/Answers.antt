-- `guest_state::place_component` meets its contract: a start raised, or one as it is; each sum is small.
use native.Mathlib.Omega.{arith}
use mathlib.Core.Path.{sym, ◌∙◌}
use Rattle.guest_state.specs.CompactLaws.{placed_raised, placed_packed}
use Rattle.guest_state.proofs.place_component.Goals as goal

pub returns-then-has_bit : goal.returns-then-has_bit
returns-then-has_bit c = record { value = placed_raised c.args.subleaf c.args.size (sym c.has_bit.ensures ∙ c.if-has_bit.true); small = omega arith }

pub returns : goal.returns
returns c = record { value = placed_packed c.args.subleaf c.args.size (sym c.has_bit.ensures ∙ c.if-has_bit.false); small = omega arith }
