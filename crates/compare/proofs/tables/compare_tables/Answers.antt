-- `compare::tables::compare_tables` meets its contract: the rows in memory are those of the tables.
use Rattle.compare.proofs.RowsComparedLaws.{held_compared}
use Rattle.compare.proofs.TablesDecideProof.{decided}
use Rattle.compare.proofs.tables.compare_tables.Goals as goal

pub returns : goal.returns
returns c = let both = decided _ _
    (held_compared c.args.a_registers.now c.args.a_origins.now c.args.b_registers.now c.args.b_origins.now
    c.combined_mask-a_mask.ensures c.combined_mask-b_mask.ensures c.compare_rows.ensures) in record { value = both.0; decides = both.1 }
