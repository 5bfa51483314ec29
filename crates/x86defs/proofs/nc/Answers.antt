-- `x86defs::nc` meets its contract, by the law of a field by shift and mask: its shift is 0.
use native.Mathlib.Nat.{div-one}
use Rattle.x86defs.specs.Fields.Field.{nc}
use Rattle.x86defs.specs.FieldsLaws.{cut_out}
use Rattle.x86defs.proofs.nc.Goals as goal

pub returns : goal.returns
returns c = let both = rw div-one at (cut_out nc c.args.ecx) in record { value = both.0; small = both.1 }
