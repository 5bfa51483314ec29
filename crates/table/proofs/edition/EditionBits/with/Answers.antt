-- `EditionBits::with` meets its contract: its test is the definition's.
use Rattle.table.proofs.edition.EditionBits.with.Goals as goal

pub returns-then-asked : goal.returns-then-asked
returns-then-asked c = rw c.if-asked.true

pub returns : goal.returns
returns c = rw c.if-asked.false
