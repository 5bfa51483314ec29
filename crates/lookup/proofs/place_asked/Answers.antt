-- `lookup::place_asked` meets its contract: each way through it is one case of `place_asked`.
use mathlib.Core.Path.{◌≡◌, refl, ap, ◌∙◌}
use mathlib.Core.Bool.{false}
use Rattle.bits.specs.ChoiceLaws.{pick_false}
use Rattle.lookup.specs.Lookup.{with_subleaves, place_alone, place_asked, at_place}
use Rattle.lookup.specs.AskedLaws.{spans_fit, within_span, without_span}
use Rattle.lookup.proofs.place_asked.Goals as goal
use Rattle.lookup.proofs.place_asked.Goals.{in-Some+else-span-ne0+else-enforce_subleaf, in_default}

pub place_within-requires : goal.place_within-requires
place_within-requires c = rw c.span_of-span.ensures (spans_fit _)

pub returns-then-span-ne0 : goal.returns-then-span-ne0
returns-then-span-ne0 c =
    rw c.in-Some.is
    (rw c.span_of-span.ensures at c.place_within.ensures
    ∙ ap at_place (within_span _ _ _ (rw c.span_of-span.ensures at c.if-span-ne0.true) refl))

pub returns-then-enforce_subleaf : goal.returns-then-enforce_subleaf
unfolding place_asked
returns-then-enforce_subleaf c =
    rw (c.in-Some.is, without_span _ (rw c.span_of-span.ensures at c.if-span-ne0.false), c.if-enforce_subleaf.true)

pub returns : goal.returns
unfolding place_asked place_alone
returns c = elim c.match-subleaf.branch [
  | in-Some+else-span-ne0+else-enforce_subleaf w ↦
      let none : with_subleaves _ ≡ false = without_span _ (rw w.span_of-span.ensures at w.if-span-ne0.false) in
      rw (w.in-Some.is, none, w.if-enforce_subleaf.false) (c.place_alone.ensures ∙ ap at_place (pick_false _ _ none))
  | in_default w ↦ rw w.in_default.is c.place_alone.ensures
]
