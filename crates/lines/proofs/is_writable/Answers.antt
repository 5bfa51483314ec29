-- `is_writable` meets its contract: the four tests of the definition.
use Rattle.lines.specs.Line.{writable}
use Rattle.lines.proofs.is_writable.Goals as goal

pub returns : goal.returns
unfolding writable
returns c =
    rw (
      ← c.names_of-named.ensures,
      c.may_have_leaf.ensures,
      c.may_have_subleaf.ensures,
      c.may_have_s.ensures,
    )
