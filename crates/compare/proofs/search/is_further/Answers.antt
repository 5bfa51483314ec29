-- `compare::search::is_further` meets its contract: by the place, then by the two masks.
use mathlib.Core.Path.{sym}
use borrow.Author.Rules.{rules}
use Rattle.compare.specs.RowsComparedLaws.{further_low, further_state, further_high}
use Rattle.compare.proofs.search.is_further.Goals as goal

pub returns-then-place : goal.returns-then-place
returns-then-place c = sym (further_low _ _ _ (search rules))

pub returns-then-has_bit64 : goal.returns-then-has_bit64
returns-then-has_bit64 c =
    rw (
      further_state _ _ c.args.place (search rules) (search rules),
      c.has_bit64-then-has_bit64.ensures,
      ← c.has_bit64.ensures,
      c.if-has_bit64.true,
    )

pub returns-then-place-2 : goal.returns-then-place-2
returns-then-place-2 c =
    rw (further_state _ _ c.args.place (search rules) (search rules), ← c.has_bit64.ensures, c.if-has_bit64.false)

pub returns : goal.returns
returns c = sym (further_high _ _ _ (search rules))
