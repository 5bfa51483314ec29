-- `check_topology` meets its contract: refused where the five numbers are inconsistent, else ready.
use mathlib.Core.Path.{◌≡◌, ap, ◌∙◌}
use Rattle.bits.specs.Bits.{bit}
use Rattle.x86defs.specs.Fields.{cut}
use Rattle.x86defs.specs.Fields.Field.{nc, apic_core_id_size, lps_per_package, threads_per_compute_unit}
use Rattle.x86defs.specs.declared.CpuidResult.{CpuidResult}
use Rattle.topology.specs.Topology.{topology_of}
use Rattle.memory.specs.Memory.{rows_in}
use Rattle.checks.specs.TopologyInputs.{inputs_of}
use Rattle.finish.specs.StageLaws.{topology_inputs}
use Rattle.rows.specs.CheckedLaws.{topology_accepts, topology_refuses}
use Rattle.rows.proofs.checked.check_topology.Goals as goal
use Rattle.rows.proofs.checked.check_topology.Goals.{After-extended_topology}
use Rattle.std.proofs.lemmas.Result.{err_from_is_err_and}

-- the topology that the code found is the definition's
found : (c : After-extended_topology) → c.extended_topology.result ≡ topology_of (inputs_of (rows_in c.args.registers.now c.args.origins.now))
found c =
    topology_inputs (rows_in c.args.registers.now c.args.origins.now)
    (c.apic_core_id_size.ensures.value ∙ ap (λ (r : CpuidResult). cut apic_core_id_size r.ecx) c.row_at-sizes.ensures)
    (c.nc.ensures.value ∙ ap (λ (r : CpuidResult). cut nc r.ecx) c.row_at-sizes.ensures)
    (c.lps_per_package.ensures.value ∙ ap (λ (r : CpuidResult). cut lps_per_package r.ebx) c.row_at-version.ensures)
    (c.mt_per_socket.ensures.value ∙ ap (λ (r : CpuidResult). bit 28 r.edx) c.row_at-version.ensures)
    (c.threads_per_compute_unit.ensures.value ∙ ap (λ (r : CpuidResult). cut threads_per_compute_unit r.ebx) c.row_at-definition.ensures)
    c.extended_topology.ensures

pub returns : goal.returns
returns c =
    let w = goal.at.returns c in
    topology_accepts (rows_in c.args.registers.now c.args.origins.now) (found w.After-extended_topology) c.requires.0 c.requires.1 c.in_ok-processors.was

pub returns-in_err-processors : goal.returns-in_err-processors
returns-in_err-processors c =
    let p = err_from_is_err_and c.from_residual.result c.from_residual.ensures.1 in
    rw (p.1, p.2)
    (topology_refuses (rows_in c.args.registers.now c.args.origins.now) (found (goal.at.returns-in_err-processors c).After-extended_topology) c.in_err-processors.was)
