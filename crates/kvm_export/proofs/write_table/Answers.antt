-- `kvm_export::write_table` meets its contract: a buffer shorter than the list is refused untouched, any other is given the list at its front.
use mathlib.Core.Path.{ap, refl}
use Prim.Native.Nat.{◌+◌, ◌≤◌}
use native.Mathlib.Omega.{arith}
use lib.ListN.{length}
use Rattle.table.specs.declared.CpuidResults.{CpuidResults}
use Rattle.memory.specs.Held.{held_in}
use Rattle.buffer.specs.FrontLaws.{front_short, front_whole}
use Rattle.kvm_export.specs.Export.{list_of}
use Rattle.kvm_export.specs.ExportPieces.{rows_left}
use Rattle.kvm_export.proofs.ExportListLaws.{list_size, rows_size, list_done}
use borrow.Author.Rules.{rules}
use Rattle.kvm_export.proofs.write_table.Goals as goal
use Rattle.kvm_export.proofs.write_table.Goals.{Start}
use Rattle.std.specs.Prelude.{Ok}

abbrev held : Start → CpuidResults
held c = held_in c.args.registers.now c.args.origins.now

pub returns-then-out-size : goal.returns-then-out-size
returns-then-out-size c =
    rw (front_short (list_of (held (goal.at.returns-then-out-size c).Start)) c.args.out.now (omega (arith, list_size (held (goal.at.returns-then-out-size c).Start) c.rows_among-n.ensures.0))) (refl, refl)

pub put_rows-requires : goal.put_rows-requires
put_rows-requires c =
    let h : 8 + length (rows_left (held (goal.at.put_rows-requires c).Start) 0) ≤ length c.args.out.now = omega (arith, rows_size (held (goal.at.put_rows-requires c).Start) c.rows_among-n.ensures.0) in
    search rules

pub returns : goal.returns
returns c =
    rw (front_whole (list_of (held (goal.at.returns c).Start)) c.args.out.now (omega (arith, list_size (held (goal.at.returns c).Start) c.rows_among-n.ensures.0))) (
      ap Ok (list_size (held (goal.at.returns c).Start) c.rows_among-n.ensures.0),
      list_done (held (goal.at.returns c).Start) _ c.rows_among-n.ensures.0
          c.put_word.ensures
          c.put_word-2.ensures
          c.put_rows.ensures,
    )
