-- The answer with every definition open: a theorem that unfolds `evaluated` computes with page bytes as the definitions read them, and one that
-- unfolds `passed` with the same bytes read in one pass, which takes a twentieth of the time (PassLaws.antt has what that says of the answer).
use Rattle.std.specs.Prelude.{List, ℕ}
use Rattle.bits.specs.Lists.{tabulate, keep_if, sum_to}
use Rattle.bits.specs.Search.{lowest}
use Rattle.bits.specs.Bits.{bit, has, field, field_mask, mask_of, clear, clear_unless}
use Rattle.x86defs.specs.Fields.{fields_mask}
use Rattle.x86defs.specs.Functions.{AmdMaximum, ExtendedAmdMaximum}
use Rattle.pages.specs.Layout.{entry_at, bad_length, counts_fit}
use Rattle.pages.specs.Entries.{on_page, on_pages, entries, counts, counted}
use Rattle.pages.specs.Reserved.{eight_zeros, first_nonzero, reserved_of}
use Rattle.masking.specs.Masks.{version_and_features, extended_features, extended_state0, extended_state1, extended_version_and_features, extended_address_space_sizes, extended_svm, extended_optimization, extended_sev, secure_avic_mask}
use Rattle.masking.specs.Kept.{kept_leaves, place_of, slot}
use Rattle.topology.specs.Topology.{threads_in, topology_of, least_power, shift_of}
use Rattle.checks.specs.Required.{common_required_leaves, snp_required_leaves, required_at, place_required}
use Rattle.checks.specs.ExtendedState.{xfem, xss, combined_mask, area_below, size_of}
use Rattle.checks.specs.TopologyInputs.{inputs_of}
use Rattle.finish.specs.Kinds.{register_kinds, kinds_at}
use Rattle.finish.specs.Finish.{finished, settings, enabled_by, ymm_clears, edition1, version_ecx, features_ebx, features_ecx, features_edx, extended_version_ecx, extended_version_edx, address_sizes_ebx, unless_no_xss, avx512_features_ebx, avx512_features_ecx, avx512_features_edx, cet_ss, rd_pid, rdtscp, ibrs_and_stibp, btc_no, hypervisor_present}
use Rattle.checks.specs.Checks.{required_verdict, invlpgb_verdict, components_of, components_verdict, area_verdict, topology_verdict, rows_verdict}
use Rattle.table.specs.declared.Choices.{Choices}
use Rattle.table.specs.Edition.{known_edition, joined_from, bits_between}
use Rattle.table.specs.Rows.{Rows}
use Rattle.table.specs.Table.{count_rows}
use Rattle.build.specs.declared.Built.{Built}
use Rattle.memory.specs.Origin.{is_made_here, origin_of}
use Rattle.collect.specs.FirstEntries.{first_at, legacy_features, rows_of}
use Rattle.collect.specs.FirstEntryOrigin.{stands_at}
use Rattle.build.specs.Build.{edition_verdict, under_edition, verdict_of, origins_in, answer}
use Rattle.collect.specs.Lawful.{length_verdict, counts_verdict, reserved_verdict, lawful_verdict}
use Rattle.page_sets.specs.Pass.{on_page_in, on_pages_in, unclean_on_page, unclean_in, passed_lawful, placed_entry, placed_entries, first_placed, passed_entries, passed_rows, passed_verdict}
use Rattle.table.specs.Verdict.{Verdict}

-- what the examples choose: secure AVIC off, edition 1
abbrev pub first_edition : Choices
first_edition = under_edition 1

-- what is done with entries once they are read
unfoldable pub opened : Rows → Verdict
unfolding rows_verdict required_verdict invlpgb_verdict components_of components_verdict area_verdict topology_verdict lowest place_required required_at
    common_required_leaves snp_required_leaves counts place_of kept_leaves slot version_and_features extended_features extended_state0 extended_state1
    extended_version_and_features extended_address_space_sizes extended_svm extended_optimization extended_sev secure_avic_mask fields_mask field_mask mask_of
    legacy_features xfem xss combined_mask area_below size_of has bit field inputs_of topology_of threads_in tabulate sum_to count_rows finished settings
    enabled_by ymm_clears bits_between joined_from edition1 least_power shift_of clear clear_unless version_ecx features_ebx features_ecx features_edx extended_version_ecx
    extended_version_edx address_sizes_ebx unless_no_xss avx512_features_ebx avx512_features_ecx avx512_features_edx cet_ss rd_pid rdtscp ibrs_and_stibp btc_no
    hypervisor_present AmdMaximum ExtendedAmdMaximum register_kinds kinds_at
opened m = rows_verdict m

unfoldable pub evaluated : Choices → List ℕ → Built
unfolding opened answer origins_in is_made_here origin_of stands_at verdict_of edition_verdict known_edition lawful_verdict length_verdict counts_verdict
    reserved_verdict bad_length counts_fit reserved_of first_nonzero eight_zeros rows_of first_at counted keep_if entries on_pages on_page entry_at
evaluated chosen s = answer chosen s

unfoldable pub passed : Choices → List ℕ → Verdict
unfolding opened passed_verdict edition_verdict known_edition passed_lawful length_verdict bad_length unclean_in unclean_on_page eight_zeros passed_rows
    passed_entries first_placed placed_entries placed_entry on_pages_in on_page_in
passed chosen s = passed_verdict chosen s
