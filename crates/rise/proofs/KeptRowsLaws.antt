-- Rows that keep every row of others have the same answer, once no required or needed row was missing.
use Rattle.std.specs.Prelude.{◌≡◌, Bool, ℕ, ◌+◌, ◌≤◌, ◌<◌, ltb, Err, Ok}
use Rattle.std.proofs.Math.Path.{refl, ap, subst, fun_ext}
use Rattle.std.proofs.Common.{sym, ◌∙◌, le_antisymm, arith, lit<, ltb-true, ltb-false}
use Rattle.std.proofs.Math.Bool.{true, false}
use Rattle.bits.specs.Choice.{pick}
use Rattle.bits.specs.Search.{Failing}
use Rattle.bits.specs.SearchLaws.{lowest_all}
use Rattle.bits.specs.Bits.{has}
use Rattle.bits.specs.BitsLaws.{within_refl}
use Rattle.masking.specs.Kept.{places}
use Rattle.masking.specs.Place
use Rattle.topology.specs.Topology.{topology_of, processors, thread_level, core_level}
use Rattle.table.specs.declared.CpuidResults.{CpuidResults}
use Rattle.table.specs.Rows.{Row, Rows}
use Rattle.table.specs.Table.{table_of}
use Rattle.checks.specs.Required.{place_required}
use Rattle.checks.specs.ExtendedState.{xfem, xss, combined_mask, supplied, sum_at, save_area}
use Rattle.checks.specs.ExtendedStateLaws.{area_mono, in_combined}
use Rattle.checks.specs.TopologyInputs.{inputs_of}
use Rattle.checks.specs.Checks.{refuse_at, missing_component, required_verdict, invlpgb_verdict, components_of, components_verdict, area_verdict, topology_verdict, rows_verdict}
use Rattle.checks.specs.ChecksLaws.{all_pass, required_present, present_required, component_present}
use Rattle.finish.specs.Finish.{Rule, Settings, rule_at, enabled_by, ymm_clears, settings, finish_row, finished}
use Rattle.finish.specs.PlaceLaws.{always, required_place, position, always_required, component_rule, Sort, sort}
use Rattle.finish.specs.PlaceLaws.Sort.{made, required, subleaf}
use Rattle.finish.specs.RowsBuilt.{table_for, built_from}
use Rattle.finish.specs.Stages.{from_area, from_components, from_invlpgb}
use Rattle.rise.specs.Added.{Covered}
use Rattle.rise.specs.KeepsLaws.{Keeps}
use Rattle.rise.specs.CoveredLaws.{required_found, components_found, then_same}
use Rattle.rise.specs.KeptRowsLaws.{made_same, unused_same}
use Rattle.table.specs.Verdict.{Verdict}

-- ---- rows B that keep those of A

module _ (A B : Rows) (keeps : Keeps A B) (found : required_verdict A ≡ Ok tt) where
  required_kept : (i : ℕ) → i < places → always (rule_at i) ≡ true → B i ≡ A i
  required_kept i l e =
      let q = always_required i l e in
      keeps.kept i (subst (λ (n : ℕ). (A n).present ≡ true) q.1 (required_present A found (position i) q.0))

  required_same : required_verdict B ≡ Ok tt
  required_same =
      present_required B (λ j l.
      ap (λ (r : Row). r.present) (required_kept (place_required j) (required_place j l).0 (required_place j l).1) ∙ required_present A found j l)

  invlpgb_same : invlpgb_verdict B ≡ invlpgb_verdict A
  unfolding invlpgb_verdict
  invlpgb_same = rw (required_kept Place.extended_address_space_sizes (lit< tt) refl)

  xfem_same : xfem B ≡ xfem A
  unfolding xfem
  xfem_same = ap (λ (r : Row). r.result.eax) (required_kept (Place.extended_state 0) (lit< tt) refl)

  xss_same : xss B ≡ xss A
  unfolding xss
  xss_same = rw (required_kept (Place.extended_state 1) (lit< tt) refl)

  mask_same : combined_mask B ≡ combined_mask A
  unfolding combined_mask
  mask_same = rw (xfem_same, xss_same)

  inputs_same : inputs_of B ≡ inputs_of A
  unfolding inputs_of
  inputs_same =
      rw (
        required_kept Place.extended_address_space_sizes (lit< tt) refl,
        required_kept Place.version_and_features (lit< tt) refl,
        required_kept Place.processor_topology_definition (lit< tt) refl,
      )

  sev_same : (B Place.extended_sev_features).result.eax ≡ (A Place.extended_sev_features).result.eax
  sev_same = ap (λ (r : Row). r.result.eax) (required_kept Place.extended_sev_features (lit< tt) refl)

  topology_same : topology_verdict B ≡ topology_verdict A
  unfolding topology_verdict
  topology_same = rw inputs_same

  -- where no needed subleaf was missing either
  module _ (supplies : components_verdict A ≡ Ok tt) where
    component_kept : (k : ℕ) → 2 ≤ k → k < 64 → has k (combined_mask A) ≡ true → B (Place.extended_state k) ≡ A (Place.extended_state k)
    component_kept k l u h = keeps.kept (Place.extended_state k) (component_present A supplies k l u h)

    supplied_same : (k : ℕ) → 2 ≤ k → k < 64 → supplied B (combined_mask B) k ≡ true
    supplied_same k l u = rw mask_same (go (has k (combined_mask A)) refl)
      where
        go : (b : Bool) → has k (combined_mask A) ≡ b → pick b (B (Place.extended_state k)).present true ≡ true
        go true e = ap (λ (r : Row). r.present) (component_kept k l u e) ∙ component_present A supplies k l u e
        go false e = refl

    components_same : components_verdict B ≡ Ok tt
    unfolding components_verdict components_of
    components_same =
        ap (λ (f : Failing). refuse_at f missing_component) (lowest_all (supplied B (combined_mask B)) 2 62 (λ k l u. supplied_same k l (omega arith)))

    sums_same : (k : ℕ) → 2 ≤ k → k < 64 → has k (xfem A) ≡ true → sum_at B k ≡ sum_at A k
    sums_same k l u h = ap (λ (r : Row). r.result.eax + r.result.ebx) (component_kept k l u (in_combined A k h))

    area_same : save_area B (xfem B) ≡ save_area A (xfem A)
    area_same =
        ap (save_area B) xfem_same
        ∙ le_antisymm (area_mono B A 64 (within_refl (xfem A)) sums_same)
        (area_mono A B 64 (within_refl (xfem A)) (λ k l u h. sym (sums_same k l u h)))

    area_verdict_same : area_verdict B ≡ area_verdict A
    unfolding area_verdict
    area_verdict_same = rw area_same

    -- the table, under edition n
    module _ (n : ℕ) where
      settings_same : settings n B ≡ settings n A
      unfolding settings enabled_by
      settings_same = λ k. record {
        clears = ymm_clears n;
        enabled = record { xfem = xfem_same k; xss = xss_same k; tsc_aux = has 9 (sev_same k) };
        save_area = area_same k;
        threads = thread_level (inputs_same k).t;
        cores = core_level (processors (topology_of (inputs_same k)));
      }

      -- a row of the table, under the settings of A
      abbrev Same : ℕ → Type 0
      Same i = finish_row (settings n A) (rule_at i) (B i) ≡ finish_row (settings n A) (rule_at i) (A i)

      kept_same : (i : ℕ) → B i ≡ A i → Same i
      kept_same i e = ap (finish_row (settings n A) (rule_at i)) e

      -- a subleaf stays as it was, or goes for want of its bit
      subleaf_same : (i k : ℕ) → i ≡ Place.extended_state k → 2 ≤ k → k < 64 → Same i
      unfolding settings enabled_by combined_mask
      subleaf_same i k e l u = go (has k (combined_mask A)) refl
        where
          go : (b : Bool) → has k (combined_mask A) ≡ b → Same i
          go true h = kept_same i (subst (λ (n : ℕ). B n ≡ A n) (sym e) (component_kept k l u h))
          go false h =
              subst (λ (t : Rule). finish_row (settings n A) t (B i) ≡ finish_row (settings n A) t (A i)) (sym (ap rule_at e ∙ component_rule k l u))
              (unused_same (settings n A) k (A i) (B i) h)

      row_same : (i : ℕ) → Same i
      row_same i = go (ltb i places) refl
        where
          inside : i < places → Sort i → Same i
          inside h (made e) = made_same (settings n A) (rule_at i) (A i) (B i) e
          inside h (required e) = kept_same i (required_kept i h e)
          inside h (subleaf k e l u) = subleaf_same i k e l u

          go : (b : Bool) → ltb i places ≡ b → Same i
          go true e = inside (ltb-true i places e) (sort i (ltb-true i places e))
          go false e = kept_same i (keeps.beyond i (ltb-false i places e))

      finished_same : finished n B ≡ finished n A
      unfolding finished
      finished_same = fun_ext (λ i. ap (λ (c : Settings). finish_row c (rule_at i) (B i)) settings_same ∙ row_same i)

      table_same : table_of (finished n B) (combined_mask B) ≡ table_of (finished n A) (combined_mask A)
      table_same = rw (finished_same, mask_same)

-- ---- the whole answer

module _ (A B : Rows) (keeps : Keeps A B) (covered : Covered (rows_verdict A)) where
  found : required_verdict A ≡ Ok tt
  unfolding rows_verdict
  found = required_found A (from_invlpgb A) covered

  from_components_lem : Covered (from_components A) → from_components B ≡ from_components A
  from_components_lem c =
      let supplies : components_verdict A ≡ (Ok tt) = components_found A (from_area A) c in
      rw (components_same A B keeps found supplies, supplies, area_verdict_same A B keeps found supplies, topology_same A B keeps found)

  pub verdict_same : rows_verdict B ≡ rows_verdict A
  unfolding rows_verdict
  verdict_same =
      rw (required_same A B keeps found, found, invlpgb_same A B keeps found)
      (then_same (invlpgb_verdict A) (from_components A) (from_components B) (rw found at covered) from_components_lem)

  -- the table of an accepted one, under edition n; a refused one is empty
  table_for_lem : (n : ℕ) (v : Verdict) → rows_verdict A ≡ v → table_for n v B ≡ table_for n v A
  table_for_lem n (Ok _) e = table_same A B keeps (all_pass A e).required (all_pass A e).components n
  table_for_lem n (Err r) e = refl

  pub built_same : (n : ℕ) → built_from n B ≡ built_from n A
  unfolding built_from
  built_same n = rw verdict_same (ap (λ (t : CpuidResults). record { verdict = rows_verdict A; table = t }) (table_for_lem n (rows_verdict A) refl))
