-- The topology, from the numbers that the code cuts out of three rows.
use Rattle.std.specs.Prelude.{◌≡◌, ℕ, Ok, Result}
use Rattle.std.proofs.Common.{ap, ◌∙◌}
use Rattle.bits.specs.Bits.{bit}
use Rattle.x86defs.specs.Fields.{cut}
use Rattle.x86defs.specs.Fields.Field.{nc, apic_core_id_size, lps_per_package, threads_per_compute_unit}
use Rattle.x86defs.specs.VersionAndFeaturesEdx
use Rattle.topology.specs.Topology.{inputs, topology_of, processors}
use Rattle.masking.specs.Place
use Rattle.table.specs.Rows.{Rows}
use Rattle.checks.specs.TopologyInputs.{inputs_of}
use Rattle.topology.specs.declared.TopologyError.{TopologyError}

pub topology_inputs : (m : Rows) {s n l h t : ℕ} {p : Result ℕ TopologyError}
    → s ≡ cut apic_core_id_size (m Place.extended_address_space_sizes).result.ecx
    → n ≡ cut nc (m Place.extended_address_space_sizes).result.ecx
    → l ≡ cut lps_per_package (m Place.version_and_features).result.ebx
    → h ≡ bit (VersionAndFeaturesEdx.position VersionAndFeaturesEdx.VersionAndFeaturesEdx.mt_per_socket) (m Place.version_and_features).result.edx
    → t ≡ cut threads_per_compute_unit (m Place.processor_topology_definition).result.ebx
    → p ≡ topology_of (inputs s n l h t) → p ≡ topology_of (inputs_of m)
unfolding inputs_of
topology_inputs m a b c d e f = f ∙ ap topology_of (rw (a, b, c, d, e))

module _ (m : Rows) {p : Result ℕ TopologyError} (e : p ≡ topology_of (inputs_of m)) where
  pub topology_found : {v : ℕ} → p ≡ Ok v → v ≡ processors (topology_of (inputs_of m))
  topology_found f = rw (← e, f)
