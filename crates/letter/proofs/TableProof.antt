-- The table of an accepted page set is the paper's.
use Rattle.std.specs.Prelude.{◌≡◌, Bool, List, map, ℕ, eqb, ltb, get_or, Ok, Option}
use Rattle.std.proofs.Math.Path.{refl, sym, ap, fun_ext}
use Rattle.std.proofs.Common.{ap₂, ◌∙◌, eq-eqb, ne_eqb, le-ltb}
use Rattle.std.proofs.Math.Bool.{true, false}
use Rattle.bits.specs.Choice.{pick}
use Rattle.bits.specs.ChoiceLaws.{never_both, pick_true, pick_false, and_implied}
use Rattle.bits.specs.Lists.{tabulate, sum_to}
use Rattle.bits.specs.ListsLaws.{get_d_tabulate}
use Rattle.bits.specs.Bits.{has, bit, field, field_mask, mask_of}
use Rattle.x86defs.specs.declared.CpuidResult.{CpuidResult}
use Rattle.x86defs.specs.Functions.{cpuid_result}
use Rattle.x86defs.specs.Fields.{fields_mask}
use Rattle.pages.specs.Layout.{Entry}
use Rattle.pages.specs.Entries.{counted}
use Rattle.masking.specs.Masks as Masks
use Rattle.masking.specs.Kept.{kept_leaves, place_of, slot, places}
use Rattle.table.specs.declared.Choices.{Choices}
use Rattle.table.specs.declared.Refusal.TheVariants.{UnknownEdition}
use Rattle.table.specs.Edition.{known_edition}
use Rattle.table.specs.Rows.{Row, Rows, row, vacant}
use Rattle.table.specs.Table.{table_of, count_rows}
use Rattle.table.specs.TableLaws.{table_ext}
use Rattle.topology.specs.Topology.{Inputs, topology_of, processors}
use Rattle.checks.specs.ExtendedState as State
use Rattle.checks.specs.TopologyInputs.{inputs_of}
use Rattle.checks.specs.Checks.{topology_refusal, topology_verdict, rows_verdict}
use Rattle.checks.specs.ChecksLaws.{demanded, all_pass}
use Rattle.collect.specs.FirstEntries.{first_at, legacy_features, masked_at, rows_of}
use Rattle.collect.specs.FirstEntriesLaws.{row_beyond}
use Rattle.finish.specs.Finish.{finished}
use Rattle.finish.specs.RowsBuilt.{table_for, built_from}
use Rattle.finish.specs.declared.RowsBuilt.{RowsBuilt}
use Rattle.build.specs.Build.{edition_verdict, rows_for, answer}
use Rattle.rise.specs.Added.{Covered}
use Rattle.rise.specs.KeepsLaws.{Keeps}
use Rattle.rise.proofs.KeptRowsLaws.{verdict_same, built_same}
use Rattle.rise.specs.RiseProof.{answer_table, accepted_rows, accepted_edition}
use Rattle.rise.specs.Levels.{CountOf}
use Rattle.rise.proofs.LevelsProof.{topology_gives}
use Rattle.rise.specs.Levels.CountOf.{one, legacy, power}
use Rattle.letter.specs.Paper.{Line, first, lines_with, lines, table_with, area}
use Rattle.letter.specs.Paper as Paper
use Rattle.letter.specs.Names.{place_for}
use Rattle.letter.specs.Figures as Figures
use Rattle.letter.proofs.Figures as FiguresLaws
use Rattle.letter.specs.CountedProof.{counted_same}
use Rattle.letter.proofs.FirstProof.{kept_first, told_first, kept_told}
use Rattle.letter.specs.TableProof.{accepts, count_said}
use Rattle.table.specs.Verdict.{Verdict}

-- ---- entries by place, entries by leaf and subleaf

module _ (es : List Entry) where
  abbrev by_place : ℕ → CpuidResult
  by_place i = (first_at i es).result

  abbrev by_leaf : ℕ → Option ℕ → CpuidResult
  by_leaf l k = (first es l k).result

  abbrev at : (ℕ → CpuidResult) → ℕ → Option ℕ → CpuidResult
  at g l k = g (place_for l k)

  module _ (n : ℕ) (avic : Bool) where
    lines_kept : lines n avic (at by_place) ≡ lines n avic (at (λ i. (kept_first es i).result))
    unfolding place_of kept_leaves tabulate area
    lines_kept = refl

    lines_told : lines n avic (at (λ i. (told_first es i).result)) ≡ lines n avic by_leaf
    unfolding place_of kept_leaves slot tabulate area
    lines_told = refl

    pub lines_same : lines n avic (at by_place) ≡ lines n avic by_leaf
    lines_same = lines_kept ∙ ap (λ (g : ℕ → Row). lines n avic (at (λ i. (g i).result))) (kept_told es) ∙ lines_told

    -- the combined mask
    abbrev mask : (ℕ → Option ℕ → CpuidResult) → ℕ
    mask e = Paper.combined (Paper.masked avic e)

    mask_kept : mask (at by_place) ≡ mask (at (λ i. (kept_first es i).result))
    unfolding place_of kept_leaves
    mask_kept = refl

    mask_told : mask (at (λ i. (told_first es i).result)) ≡ mask by_leaf
    unfolding place_of kept_leaves slot
    mask_told = refl

    pub mask_same : mask (at by_place) ≡ mask by_leaf
    mask_same = mask_kept ∙ ap (λ (g : ℕ → Row). mask (at (λ i. (g i).result))) (kept_told es) ∙ mask_told

-- ---- a table of rows at the 88 places, written out

places_whole : (n : ℕ) (avic : Bool) (e : ℕ → Option ℕ → CpuidResult) (x : ℕ)
    → table_of (λ i. get_or (map (λ (l : Line). l.row) (lines n avic e)) i vacant) x ≡ table_with x (lines n avic e)
unfolding tabulate count_rows sum_to
places_whole n avic e x = refl

-- ---- an accepted page set

module _ (chosen : Choices) (s : List ℕ) (accepted : (answer chosen s).verdict ≡ Ok tt) where
  abbrev avic : Bool
  avic = chosen.secure_avic

  abbrev n : ℕ
  n = chosen.edition

  abbrev g : ℕ → CpuidResult
  g = by_place (counted s)

  -- the first entries as masked
  abbrev masked : ℕ → Option ℕ → CpuidResult
  masked = Paper.masked avic (at (counted s) g)

  -- the masked first entries, with a row at every place
  abbrev full : Rows
  full = Figures.m g avic

  keeps : Keeps (rows_for chosen s) full
  unfolding rows_of
  keeps = record {
    kept = λ i. at' i (ltb i places) (first_at i (counted s)).present;
    beyond = λ i l. pick_false _ _ (le-ltb i places l) ∙ sym (row_beyond avic s i l);
  }
    where
      at' : (i : ℕ) (q p : Bool)
          → (pick q (pick p (row (masked_at avic i (first_at i (counted s)).result)) vacant) vacant).present ≡ true
          → pick q (row (masked_at avic i (g i))) vacant ≡ pick q (pick p (row (masked_at avic i (first_at i (counted s)).result)) vacant) vacant
      at' i true true h = refl
      at' i true false h = absurd (never_both h refl)
      at' i false p h = absurd (never_both h refl)

  rows_accepted : rows_verdict (rows_for chosen s) ≡ Ok tt
  rows_accepted = accepted_rows chosen s accepted

  known : known_edition chosen.edition ≡ true
  unfolding edition_verdict
  known = demanded (known_edition chosen.edition) UnknownEdition (accepted_edition chosen s accepted)

  covered : Covered (rows_verdict (rows_for chosen s))
  covered = rw rows_accepted tt

  full_accepted : rows_verdict full ≡ Ok tt
  full_accepted = verdict_same (rows_for chosen s) full keeps covered ∙ rows_accepted

  of_built : (m : Rows) → rows_verdict m ≡ Ok tt → (built_from chosen.edition m).table ≡ table_of (finished chosen.edition m) (State.combined_mask m)
  unfolding built_from
  of_built m e = ap (λ (v : Verdict). table_for chosen.edition v m) e

  table_full : (answer chosen s).table ≡ table_of (finished chosen.edition full) (State.combined_mask full)
  table_full =
      answer_table chosen s accepted
      ∙ sym (of_built (rows_for chosen s) rows_accepted)
      ∙ sym (ap (λ (b : RowsBuilt). b.table) (built_same (rows_for chosen s) full keeps covered chosen.edition))
      ∙ of_built full full_accepted

  inputs_given : inputs_of full ≡ Paper.given masked
  unfolding inputs_of place_of kept_leaves slot Masks.version_and_features Masks.extended_address_space_sizes mask_of fields_mask field_mask field bit
  inputs_given = refl

  v_said : processors (topology_of (inputs_of full)) ≡ Paper.processors (Paper.given masked)
  unfolding topology_verdict
  v_said =
      count_said (inputs_of full) _ (topology_gives (inputs_of full) _ (accepts _ (all_pass full full_accepted).topology)).count
      ∙ ap Paper.processors inputs_given

  mask_full : State.combined_mask full ≡ Paper.combined masked
  unfolding State.combined_mask State.xfem State.xss place_of kept_leaves slot Masks.extended_state0 Masks.extended_state1 mask_of legacy_features
  mask_full = refl

  rows_full : tabulate 88 (finished chosen.edition full) ≡ map (λ (l : Line). l.row) (lines n avic (by_leaf (counted s)))
  rows_full =
      Figures.table_same g n avic (FiguresLaws.clears_same n known)
      ∙ ap₂ (λ (v : ℕ) (f : ℕ → Bool). map (λ (l : Line). l.row) (lines_with n masked v f)) v_said
      (fun_ext (λ k. and_implied (has k (Paper.combined masked)) true (λ h. refl)))
      ∙ ap (map (λ (l : Line). l.row)) (lines_same (counted s) n avic)

  by_entries : (answer chosen s).table
      ≡ table_with (Paper.combined (Paper.masked avic (by_leaf (counted s)))) (lines n avic (by_leaf (counted s)))
  by_entries =
      table_full
      ∙ table_ext
      (λ i l. sym (get_d_tabulate 88 (finished chosen.edition full) i vacant l) ∙ ap (λ (x : List Row). get_or x i vacant) rows_full)
      (mask_full ∙ mask_same (counted s) n avic)
      ∙ places_whole n avic (by_leaf (counted s)) _

  pub table_by_figures : (answer chosen s).table ≡ table_with (Paper.combined_of chosen s) (Paper.lines_of chosen s)
  table_by_figures =
      by_entries
      ∙ ap (λ (x : List Entry). table_with (Paper.combined (Paper.masked avic (by_leaf x))) (lines n avic (by_leaf x))) (counted_same s)
