-- The table of an accepted page set is the paper's.
use Rattle.std.specs.Prelude.{◌≡◌, Bool, List, map, ℕ, eqb, ltb, get_or, Err, Ok, Result}
use Rattle.std.proofs.Math.Path.{refl, sym, ap, fun_ext}
use Rattle.std.proofs.Common.{ap₂, ◌∙◌, eq-eqb, ne_eqb, le-ltb}
use Rattle.std.proofs.Math.Bool.{true, false}
use Rattle.bits.specs.Choice.{pick}
use Rattle.bits.specs.ChoiceLaws.{never_both, pick_true, pick_false, and_implied}
use Rattle.bits.specs.Lists.{tabulate, sum_to}
use Rattle.bits.specs.ListsLaws.{get_d_tabulate}
use Rattle.bits.specs.Bits.{has, bit, field, field_mask, mask_of}
use Rattle.x86defs.specs.declared.CpuidResult.{CpuidResult}
use Rattle.x86defs.specs.Functions.{cpuid_result}
use Rattle.x86defs.specs.Fields.{fields_mask}
use Rattle.pages.specs.Layout.{Entry}
use Rattle.pages.specs.Entries.{counted}
use Rattle.masking.specs.Masks as Masks
use Rattle.masking.specs.Kept.{kept_leaves, place_of, slot, places}
use Rattle.table.specs.declared.Choices.{Choices}
use Rattle.table.specs.declared.Refusal.TheVariants.{UnknownEdition}
use Rattle.table.specs.Edition.{known_edition}
use Rattle.table.specs.Rows.{Row, Rows, row, vacant}
use Rattle.table.specs.Table.{table_of, count_rows}
use Rattle.table.specs.TableLaws.{table_ext}
use Rattle.topology.specs.Topology.{Inputs, topology_of, processors}
use Rattle.checks.specs.ExtendedState as State
use Rattle.checks.specs.TopologyInputs.{inputs_of}
use Rattle.checks.specs.Checks.{topology_refusal, topology_verdict, rows_verdict}
use Rattle.checks.specs.ChecksLaws.{demanded, all_pass}
use Rattle.collect.specs.FirstEntries.{first_at, legacy_features, masked_at, rows_of}
use Rattle.collect.specs.FirstEntriesLaws.{row_beyond}
use Rattle.finish.specs.Finish.{finished}
use Rattle.finish.specs.RowsBuilt.{table_for, built_from}
use Rattle.finish.specs.declared.RowsBuilt.{RowsBuilt}
use Rattle.build.specs.Build.{edition_verdict, rows_for, answer}
use Rattle.rise.specs.Added.{Covered}
use Rattle.rise.specs.KeepsLaws.{Keeps}
use Rattle.rise.proofs.KeptRowsLaws.{verdict_same, built_same}
use Rattle.rise.specs.RiseProof.{answer_table, accepted_rows, accepted_edition}
use Rattle.rise.specs.Levels.{CountOf}
use Rattle.rise.proofs.LevelsProof.{topology_gives}
use Rattle.rise.specs.Levels.CountOf.{one, legacy, power}
use Rattle.letter.specs.Paper.{Line, first, lines_with, lines, table_with, area}
use Rattle.letter.specs.Paper as Paper
use Rattle.letter.specs.Names.{place_for}
use Rattle.letter.specs.Figures as Figures
use Rattle.letter.specs.CountedProof.{counted_same}
use Rattle.table.specs.Verdict.{Verdict}
use Rattle.topology.specs.declared.TopologyError.{TopologyError}

-- ---- v

pub accepts : (o : Result ℕ TopologyError) → topology_refusal o ≡ Ok tt → o ≡ Ok (processors o)
accepts (Ok v) e = refl
accepts (Err x) e = cc

pub count_said : (i : Inputs) (v : ℕ) → CountOf i v → v ≡ Paper.processors i
count_said i v (one a b c) = c ∙ sym (pick_true _ _ (eq-eqb _ _ a) ∙ pick_true _ _ (eq-eqb _ _ b))
count_said i v (legacy a b c d) = c ∙ sym (pick_true _ _ (eq-eqb _ _ a) ∙ pick_false _ _ (ne_eqb _ _ b))
count_said i v (power a b) = b ∙ sym (pick_false _ _ (ne_eqb _ _ a))
