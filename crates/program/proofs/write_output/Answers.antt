-- `program::write_output` meets its contract: too long, refused, or the image.
use Rattle.program.specs.ProgramBytesLaws.{output_too_long, output_refused, output_accepted}
use Rattle.program.proofs.write_output.Goals as goal

pub returns-then-input-gt-LONGEST_INPUT : goal.returns-then-input-gt-LONGEST_INPUT
returns-then-input-gt-LONGEST_INPUT c = rw (← output_too_long _ c.if-input-gt-LONGEST_INPUT.true) c.put_too_long.ensures

pub returns-in-Err : goal.returns-in-Err
returns-in-Err c =
    rw (← output_refused _ c.if-input-gt-LONGEST_INPUT.false c.build_into-verdict.ensures _ _ c.in-Err.is c.from.ensures)
    c.put_refusal.ensures

pub returns : goal.returns
returns c =
    rw (← output_accepted _ c.if-input-gt-LONGEST_INPUT.false c.build_into-verdict.ensures c.in_default.is) c.write_table.ensures
