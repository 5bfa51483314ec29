-- `known_edition` meets its contract: both tests are the definition's.
use borrow.Author.Rules.{rules}
use Rattle.table.specs.Edition.{known_edition}
use Rattle.table.proofs.edition.known_edition.Goals as goal

pub returns : goal.returns
unfolding known_edition
returns c = search rules
