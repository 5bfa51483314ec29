-- `extended_state::max_xss` meets its contract: the two tests are those of the definition.
use Rattle.checks.proofs.extended_state.max_xss.Goals as goal

pub returns-then-xsave_c-xsave_s : goal.returns-then-xsave_c-xsave_s
returns-then-xsave_c-xsave_s c = rw (← c.xsave_c.ensures, ← c.xsave_s.ensures, c.if-xsave_c-xsave_s.true)

pub returns : goal.returns
returns c = rw (← c.xsave_c.ensures, ← c.xsave_s.ensures, c.if-xsave_c-xsave_s.false)
