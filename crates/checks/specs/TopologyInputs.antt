-- The five topology inputs, "all read after masking".
use Rattle.bits.specs.Bits.{bit}
use Rattle.x86defs.specs.Fields.{cut}
use Rattle.x86defs.specs.Fields.Field.{nc, apic_core_id_size, lps_per_package, threads_per_compute_unit}
use Rattle.x86defs.specs.VersionAndFeaturesEdx
use Rattle.topology.specs.Topology.{Inputs, inputs}
use Rattle.masking.specs.Place
use Rattle.table.specs.Rows.{Rows}

unfoldable pub inputs_of : Rows → Inputs
inputs_of m =
    inputs
    (cut apic_core_id_size (m Place.extended_address_space_sizes).result.ecx)
    (cut nc (m Place.extended_address_space_sizes).result.ecx)
    (cut lps_per_package (m Place.version_and_features).result.ebx)
    (bit (VersionAndFeaturesEdx.position VersionAndFeaturesEdx.VersionAndFeaturesEdx.mt_per_socket) (m Place.version_and_features).result.edx)
    (cut threads_per_compute_unit (m Place.processor_topology_definition).result.ebx)
