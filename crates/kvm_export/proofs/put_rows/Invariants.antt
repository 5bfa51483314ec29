-- `kvm_export::put_rows` meets its contract. The invariant: the runs that are left follow one another from the place that writing has come to.
use Rattle.std.proofs.Common.{◌≡◌, true, ℕ, drop}
use Rattle.memory.specs.Held.{held_in}
use Rattle.buffer.specs.OnwardLaws.{Onward}
use Rattle.kvm_export.specs.ExportPieces.{rows_left}
use Rattle.masking.specs.RunOrderLaws.{in_order}
use Rattle.kvm_export.proofs.put_rows.Given as goal

abbrev pub invariant-loop-run : goal.invariant-loop-run
invariant-loop-run l = (i : ℕ) × (in_order i (drop l.run-index l.run-items) ≡ true) × Onward (rows_left (held_in l.registers l.origins)) l.initial.out 8 0 l.out l.at i
