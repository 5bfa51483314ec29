-- `program::put_output` meets its contract: the output fits, so the write is never refused.
use Rattle.std.specs.Prelude.{◌≤◌, length}
use Rattle.std.proofs.Common.{arith}
use Rattle.program.specs.ProgramFits.{room, put_room, put_count, put_bytes}
use Rattle.program.proofs.put_output.Goals as goal

pub returns : goal.returns
returns c =
    let s = c.args.input.now in
    let buffer = c.args.out.now in
    let enough : room ≤ length buffer = omega arith in
    let count = put_count s buffer enough c.write_output.ensures.0 c.unwrap_or.ensures in
    let bytes = put_bytes s buffer enough c.write_output.ensures.1 count in
    record { value = (count, bytes); kept = put_room s buffer c.told-out bytes count }
