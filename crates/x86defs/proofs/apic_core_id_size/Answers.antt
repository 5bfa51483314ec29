-- `x86defs::apic_core_id_size` meets its contract, by the law of a field by shift and mask.
use Rattle.x86defs.specs.Fields.Field.{apic_core_id_size}
use Rattle.x86defs.specs.FieldsLaws.{cut_out}
use Rattle.x86defs.proofs.apic_core_id_size.Goals as goal

pub returns : goal.returns
returns c = let both = cut_out apic_core_id_size _ in record { value = both.0; small = both.1 }
