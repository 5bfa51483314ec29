-- `guest::see_osxsave` meets its contract: its test is that of the definition.
use mathlib.Core.Path.{sym, ap, ◌∙◌}
use mathlib.Core.Bool.{Bool, ◌&&◌}
use Rattle.bits.specs.Bits.{clear}
use Rattle.bits.specs.ChoiceLaws.{pick_true, pick_false}
use Rattle.guest.specs.Guest.{osxsave_seen}
use Rattle.guest.proofs.see_osxsave.Goals as goal

pub returns-then-osxsave-has_bit : goal.returns-then-osxsave-has_bit
unfolding osxsave_seen
returns-then-osxsave-has_bit c = sym (pick_true _ _ (sym (ap (λ (b : Bool). c.args.osxsave && b) c.has_bit.ensures) ∙ c.if-osxsave-has_bit.true))

pub returns : goal.returns
unfolding osxsave_seen clear
returns c = sym (pick_false _ _ (sym (ap (λ (b : Bool). c.args.osxsave && b) c.has_bit.ensures) ∙ c.if-osxsave-has_bit.false))
