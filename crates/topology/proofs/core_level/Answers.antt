-- `topology::core_level` meets its contract, by what `x2_apic_shift` ensures.
use Rattle.topology.proofs.core_level.Goals as goal

pub returns : goal.returns
returns c = rw c.x2_apic_shift.ensures
