-- `finish` meets its contract: its stores are those of the definition's rows, one by one.
use native.Mathlib.Omega.{arith}
use mathlib.Core.Path.{refl, ap, ◌∙◌}
use Rattle.x86defs.specs.declared.CpuidResult.{CpuidResult}
use Rattle.x86defs.specs.Fields.{cut}
use Rattle.x86defs.specs.Fields.Field.{threads_per_compute_unit}
use Rattle.x86defs.specs.Functions.{cpuid_result, AmdMaximum, ExtendedAmdMaximum}
use Rattle.topology.specs.Topology.{thread_level}
use Rattle.memory.specs.Memory.{row_of, rows_in}
use Rattle.checks.specs.TopologyInputs.{inputs_of}
use Rattle.finish.specs.Finish.{change_row}
use Rattle.finish.specs.Finish.{Needed}
use Rattle.finish.specs.FeaturesInCode.{clears_with, enabled_with, enabled_from}
use Rattle.finish.specs.FinishedTable.{settings_with}
use Rattle.finish.proofs.FinishedTable.{stores}
use Rattle.bits.specs.Lists.{tabulate}
use Rattle.masking.specs.Kept.{places}
use Rattle.masking.specs.Place
use Rattle.rows.specs.Finished.{kept_row}
use Rattle.memory.specs.MemoryLaws.{put_rowed}
use Rattle.rows.specs.FinishedLaws.{dropped_rowed, dropped_read, finished_memory}
use Rattle.rows.proofs.finish.Goals as goal

pub returns : goal.returns
unfolding AmdMaximum ExtendedAmdMaximum inputs_of
returns c =
    let w = c.args.registers.now in let o = c.args.origins.now in
    let s = settings_with (clears_with c.of-y.result) (enabled_with c.new-e.result) c.args.checked.size (inputs_of (rows_in w o)).t c.args.checked.processors in
    let d₀ = c.row_at-subleaf0.result in
    let dropped = c.drop_subleaves.ensures in
    let d₀-was = dropped_read dropped (Place.extended_state 0) refl refl c.row_at-subleaf0.ensures in
    let d₁-was = dropped_read dropped (Place.extended_state 1) refl refl c.row_at-subleaf1.ensures in
    let sev-was = dropped_read dropped Place.extended_sev_features refl refl c.row_at-sev.ensures in
    finished_memory c.args.edition w o c.requires.1 c.of-y.ensures
    (c.new-e.ensures ∙ (λ i. enabled_from (d₀-was i) (d₁-was i) (sev-was i)))
    c.requires.0
    dropped
    refl
    (put_rowed Place.extended_address_space_sizes c.update_extended_address_space_sizes.result (omega arith) c.put_row-10.ensures
    (put_rowed Place.extended_version_and_features c.extended_version_and_features.result (omega arith) c.put_row-9.ensures
    (put_rowed Place.extended_max_function c.vendor_and_max_function-2.result (omega arith) c.put_row-8.ensures
    (put_rowed (Place.extended_state 1) c.extended_state_1.result (omega arith) c.put_row-7.ensures
    (put_rowed (Place.extended_state 0) (cpuid_result d₀.eax d₀.ebx c.args.checked.size d₀.edx) (omega arith) c.put_row-6.ensures
    (put_rowed Place.core_level c.core_level.result (omega arith) c.put_row-5.ensures
    (put_rowed Place.thread_level c.thread_level.result (omega arith) c.put_row-4.ensures
    (put_rowed Place.extended_features c.extended_features.result (omega arith) c.put_row-3.ensures
    (put_rowed Place.version_and_features c.version_and_features.result (omega arith) c.put_row-2.ensures
    (put_rowed Place.vendor_and_max_function c.vendor_and_max_function.result (omega arith) c.put_row.ensures
    (dropped_rowed dropped)))))))))))
    (stores s (row_of w) (tabulate places (kept_row w o c.args.checked.mask))
    c.vendor_and_max_function.ensures
    (c.version_and_features.ensures ∙ ap (change_row s Needed.version_and_features) (dropped_read dropped Place.version_and_features refl refl c.row_at-version.ensures))
    (c.extended_features.ensures ∙ ap (change_row s Needed.extended_features) (dropped_read dropped Place.extended_features refl refl c.row_at-features.ensures))
    (c.thread_level.ensures
    ∙ ap thread_level
    (c.threads_per_compute_unit.ensures.value ∙ ap (λ (r : CpuidResult). cut threads_per_compute_unit r.ebx) (dropped_read dropped Place.processor_topology_definition refl refl c.row_at-topology.ensures)))
    c.core_level.ensures
    (ap (change_row s Needed.extended_state0) d₀-was)
    (c.extended_state_1.ensures ∙ ap (change_row s Needed.extended_state1) d₁-was)
    c.vendor_and_max_function-2.ensures
    (c.extended_version_and_features.ensures
    ∙ ap (change_row s Needed.extended_version_and_features) (dropped_read dropped Place.extended_version_and_features refl refl c.row_at-extended_version.ensures))
    (c.update_extended_address_space_sizes.ensures
    ∙ ap (change_row s Needed.extended_address_space_sizes) (dropped_read dropped Place.extended_address_space_sizes refl refl c.row_at-sizes.ensures)))
