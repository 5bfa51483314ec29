-- `lookup::place_within` meets its contract: each branch is one case of the choice.
use mathlib.Core.Path.{refl}
use native.Mathlib.Omega.{arith}
use borrow.Author.Tests.{lt-ltb, le-ltb}
use Rattle.lookup.specs.AskedLaws.{at_below}
use Rattle.lookup.proofs.place_within.Goals as goal

pub returns-then-subleaf-span : goal.returns-then-subleaf-span
returns-then-subleaf-span c = rw (lt-ltb _ _ c.if-subleaf-span.true) (at_below refl (omega (arith, c.if-subleaf-span.true)))

pub returns : goal.returns
returns c = rw (le-ltb _ _ c.if-subleaf-span.false)
