-- The answers are those of an order: yes from a table to itself, yes and yes make yes, and yes both ways is the same rows and masks.
use Rattle.std.specs.Prelude.{◌≡◌}
use Rattle.table.specs.declared.CpuidResults.{CpuidResults}
use Rattle.rise.specs.Preorder.{SameRows}
use Rattle.rise.specs.PreorderProof.{table_rises_itself, table_rises_compose, both_ways_same}
use Rattle.rise.proofs.AroundProof.{same_both_ways}
use Rattle.compare.specs.declared.search.RowsCompared.TheVariants.{Rises}
use Rattle.compare.specs.RowsCompared.{compared_tables}
use Rattle.compare.proofs.TablesDecideProof.{decides}

pub compared_itself : (t : CpuidResults) → compared_tables t t ≡ Rises
compared_itself t = (decides t t).complete (table_rises_itself t)

pub compared_compose : (t u v : CpuidResults) → compared_tables t u ≡ Rises → compared_tables u v ≡ Rises → compared_tables t v ≡ Rises
compared_compose t u v p q = (decides t v).complete (table_rises_compose t u v ((decides t u).yes p) ((decides u v).yes q))

pub compared_both : (t u : CpuidResults) → compared_tables t u ≡ Rises → compared_tables u t ≡ Rises → SameRows t u
compared_both t u p q = both_ways_same t u ((decides t u).yes p) ((decides u t).yes q)

pub both_compared : (t u : CpuidResults) → SameRows t u → (compared_tables t u ≡ Rises) × (compared_tables u t ≡ Rises)
both_compared t u s = let (p, q) = same_both_ways t u s in ((decides t u).complete p, (decides u t).complete q)
