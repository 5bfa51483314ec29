-- `x86defs::threads_per_compute_unit` meets its contract, by the law of a field by shift and mask.
use Rattle.x86defs.specs.Fields.Field.{threads_per_compute_unit}
use Rattle.x86defs.specs.FieldsLaws.{cut_out}
use Rattle.x86defs.proofs.threads_per_compute_unit.Goals as goal

pub returns : goal.returns
returns c = let both = cut_out threads_per_compute_unit _ in record { value = both.0; small = both.1 }
