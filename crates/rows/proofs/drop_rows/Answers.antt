-- `drop_rows` meets its contract: what is left to be made zeros gives what all gives.
use Rattle.std.proofs.Common.{◌∙◌, sym, arith}
use Rattle.rows.specs.DropLaws.{empty_row, empty_rows_end}
use Rattle.rows.proofs.drop_rows.Goals as goal

pub loop-k-preserved : goal.loop-k-preserved
loop-k-preserved c =
    rw (c.put_row.ensures, c.no_registers.ensures) (empty_row c.loop-k.k c.args.to c.loop-k-test.true c.loop-k.registers ∙ c.loop-k.invariant)

pub returns : goal.returns
returns c = sym (empty_rows_end c.loop-k.k c.args.to (omega arith) c.loop-k.registers) ∙ c.loop-k.invariant
