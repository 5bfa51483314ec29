-- `guess::guess_details` meets its contract: one field after another, each where the number names it.
use Rattle.lines.specs.ReadLine.{guess}
use Rattle.lines.proofs.guess.guess_details.Goals as goal

pub returns : goal.returns
unfolding guess
returns c =
    rw (
      ← c.field_at-first.ensures.value_value,
      ← c.field_at-first.ensures.line_value,
      ← c.names_of-named.ensures,
      ← c.field_if-leaf.ensures.value_value,
      ← c.field_if-leaf.ensures.line_value,
      ← c.subleaf_if-subleaf.ensures,
      ← c.field_if-s.ensures.value_value,
    )
