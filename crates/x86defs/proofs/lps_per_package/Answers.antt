-- `x86defs::lps_per_package` meets its contract, by the law of a field by shift and mask.
use Rattle.x86defs.specs.Fields.Field.{lps_per_package}
use Rattle.x86defs.specs.FieldsLaws.{cut_out}
use Rattle.x86defs.proofs.lps_per_package.Goals as goal

pub returns : goal.returns
returns c = let both = cut_out lps_per_package _ in record { value = both.0; small = both.1 }
