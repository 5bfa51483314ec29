-- `program::subleaf_code` meets its contract: none, or the subleaf.
use borrow.Author.Tests.{eq-eqb, ne_eqb}
use Rattle.program.proofs.subleaf_code.Goals as goal

pub returns-then-numbers-eq0 : goal.returns-then-numbers-eq0
returns-then-numbers-eq0 c = rw (eq-eqb _ _ c.if-numbers-eq0.true)

pub returns : goal.returns
returns c = rw (ne_eqb _ _ c.if-numbers-eq0.false)
