-- Finishing is idempotent: the rows of an accepted table, read again under the same masks, are accepted and give the same table.
use Rattle.std.specs.Prelude.{◌≡◌, Bool, true, false, ◌&&◌, ℕ, ◌+◌, ◌^◌, ◌≤◌, ◌<◌, eqb, ltb, Ok}
use Rattle.std.proofs.Math.Path.{refl, ap}
use Rattle.std.proofs.Common.{sym, ap₂, ◌∙◌, subst, arith, le_antisymm, lit<, lt-ltb}
use Rattle.std.specs.Int.Bits.{bit_and}
use Rattle.bits.specs.Choice.{pick}
use Rattle.bits.specs.ChoiceLaws.{never_both, and_both, pick_same, pick_true, pick_false, if_holds}
use Rattle.bits.specs.Search.{Failing, every}
use Rattle.bits.specs.SearchLaws.{every_at, lowest_all}
use Rattle.bits.specs.Lists.{tabulate, one}
use Rattle.bits.specs.ListsLaws.{length_tabulate, tabulated, get_d_tabulate, sum_ext}
use Rattle.bits.specs.Bits.{bit, has, mask_of, Within}
use Rattle.bits.specs.BitsLaws.{bit_lt, bit_and_lem, has_bit, within_refl}
use Rattle.x86defs.specs.declared.CpuidResult.{CpuidResult}
use Rattle.x86defs.specs.Functions.{cpuid_result}
use Rattle.x86defs.specs.Fields.{fields_mask}
use Rattle.topology.specs.Topology.{Inputs, topology_of, processors, thread_level, core_level}
use Rattle.masking.specs.Masks.{extended_address_space_sizes}
use Rattle.masking.specs.Kept.{places, kept_leaves, slot, masks_at}
use Rattle.masking.specs.Place
use Rattle.table.specs.TableLaws.{table_ext}
use Rattle.table.specs.declared.Refusal.TheVariants.{InvlpgbUnavailable, SaveAreaOverflow}
use Rattle.table.specs.Rows.{Row, Rows, row, vacant}
use Rattle.checks.specs.Required.{place_required, required_count}
use Rattle.checks.specs.ExtendedState.{xfem, xss, combined_mask, supplied, sum_at, save_area}
use Rattle.checks.specs.ExtendedStateLaws.{area_mono, xsaves_ecx, in_combined}
use Rattle.checks.specs.TopologyInputs.{inputs_of}
use Rattle.checks.specs.Checks.{refuse_at, missing_component, invlpgb_verdict, components_of, components_verdict, area_verdict, topology_verdict, topology_refusal, rows_verdict}
use Rattle.checks.specs.ChecksLaws.{AllPass, all_pass, required_present, present_required, component_present, demanded, then_skips}
use Rattle.finish.specs.Finish.{Rule, Settings, ymm_clears, rule_at, enabled_by, settings, finish, remains, finish_row, finished, unless_no_xss, address_sizes_ebx}
use Rattle.finish.specs.Kinds.{from_entry}
use Rattle.finish.specs.PlaceLaws.{always, always_from_entry, required_place, position, always_required, component_rule}
use Rattle.finish.specs.RemainsLaws.{finished_present}
use Rattle.finish.proofs.RemainsLaws.{finished_result, finished_entry, always_remains, component_finished}
use Rattle.table.specs.declared.CpuidResults.{CpuidResults}
use Rattle.table.specs.Table.{table_of, count_rows}
use Rattle.finish.specs.RowsBuilt.{table_for, built_from}
use Rattle.collect.specs.FirstEntries.{masked_at, mask_row}
use Rattle.round_trip.specs.Again.{read_again, again, MaskedAgain}
use Rattle.round_trip.specs.RuleAgain.{is_sizes, sizes_bit_3, has_of_bit, finish_again, remains_again}
use Rattle.table.specs.Verdict.{Verdict}

-- ---- a row, whatever the settings

-- 80000008h.EBX keeps bit 12
abbrev sizes_test : Bool → ℕ → Bool
sizes_test avic i = pick (is_sizes (rule_at i)) (has 12 (masks_at avic i).ebx) true

all_sizes : (avic : Bool) → every (sizes_test avic) places ≡ true
unfolding slot kept_leaves extended_address_space_sizes has bit mask_of fields_mask
all_sizes avic = refl

keeps_12 : (avic : Bool) (i : ℕ) → i < places → is_sizes (rule_at i) ≡ true → bit 12 (masks_at avic i).ebx ≡ 1
keeps_12 avic i l e = has_bit 12 (masks_at avic i).ebx (if_holds (is_sizes (rule_at i)) _ (every_at (sizes_test avic) places (all_sizes avic) i l) e)

keeps_3 : (avic : Bool) → bit 3 (masks_at avic Place.extended_address_space_sizes).ebx ≡ 1
unfolding slot kept_leaves extended_address_space_sizes bit mask_of fields_mask
keeps_3 avic = refl

pick_again : (b : Bool) (x m : ℕ) → bit_and x m ≡ x → pick b (bit_and (pick b x 0) m) 0 ≡ pick b x 0
pick_again true x m e = e
pick_again false x m e = refl

entry_present : (b : Bool) (x : CpuidResult) → (pick b (row x) vacant).present ≡ pick b true false
entry_present true x = refl
entry_present false x = refl

module _ (edition : ℕ) (avic : Bool) (m : Rows) (masked : MaskedAgain avic m) where
  abbrev n : Rows
  n = again avic (finished edition m)

  n_at : (i : ℕ) → i < places → n i ≡ read_again avic i (finished edition m i)
  unfolding again
  n_at i l = pick_true _ _ (lt-ltb i places l)

  -- a row that is in the table and comes from an entry
  in_table : (i : ℕ) → i < places → from_entry (rule_at i) ≡ true → (finished edition m i).present ≡ true
      → n i ≡ row (masked_at avic i (finish (settings edition m) (rule_at i) (m i).result))
  in_table i l f p =
      n_at i l ∙ pick_true _ _ f ∙ pick_true _ _ p ∙ ap (λ (q : CpuidResult). row (masked_at avic i q)) (finished_result edition m i p)

  -- finishing it under the first settings gives it again
  finished_again : (i : ℕ) → i < places → finish_row (settings edition m) (rule_at i) (n i) ≡ finished edition m i
  unfolding finished
  finished_again i l = ap (finish_row c t) (n_at i l) ∙ go (remains c t (m i).present) refl
    where
      c : Settings
      c = settings edition m

      t : Rule
      t = rule_at i

      r : CpuidResult
      r = (m i).result

      go : (b : Bool) → remains c t (m i).present ≡ b
          → finish_row c t (pick (from_entry t) (mask_row avic i (pick b (row (finish c t r)) vacant)) vacant) ≡ pick b (row (finish c t r)) vacant
      go true e =
          pick_true _ _
          (ap (remains c t) (entry_present (from_entry t) _)
          ∙ ap (λ (b : Bool). remains c t (pick (from_entry t) b false)) (sym e)
          ∙ remains_again c t (m i).present
          ∙ e)
          ∙ ap row
          (finish_again c avic i r t (λ f. masked.fixed i l (finished_entry edition m i l f (finished_present edition m i ∙ e))) (keeps_12 avic i l))
      go false e =
          ap (finish_row c t) (pick_same (from_entry t) vacant)
          ∙ pick_false _ _
          (ap (remains c t) (sym (pick_same (from_entry t) false))
          ∙ ap (λ (b : Bool). remains c t (pick (from_entry t) b false)) (sym e)
          ∙ remains_again c t (m i).present
          ∙ e)

  -- ---- of accepted rows

  module _ (accepted : rows_verdict m ≡ Ok tt) where
    pass : AllPass m
    pass = all_pass m accepted

    present : (i : ℕ) → i < places → always (rule_at i) ≡ true → (m i).present ≡ true
    present i l e =
        subst (λ (j : ℕ). (m j).present ≡ true) (always_required i l e).1
        (required_present m pass.required (position i) (always_required i l e).0)

    required_row : (i : ℕ) → i < places → always (rule_at i) ≡ true
        → n i ≡ row (masked_at avic i (finish (settings edition m) (rule_at i) (m i).result))
    required_row i l e =
        in_table i l (always_from_entry (rule_at i) e)
        (finished_present edition m i ∙ always_remains (settings edition m) (λ j. (m j).present) i l e ∙ present i l e)

    component_row : (k : ℕ) → 2 ≤ k → k < 64 → has k (combined_mask m) ≡ true → n (Place.extended_state k) ≡ row (m (Place.extended_state k)).result
    component_row k l u h =
        let i : ℕ = Place.extended_state k in
        let b : i < places = omega arith in
        let p : (m i).present ≡ true = component_present m pass.components k l u h in
        in_table i b (ap from_entry (component_rule k l u)) (component_finished edition m k l u ∙ and_both h p)
        ∙ ap (λ (t : Rule). row (masked_at avic i (finish (settings edition m) t (m i).result))) (component_rule k l u)
        ∙ ap row (masked.fixed i b p)

    -- the registers that rows need from each other, each left as it was
    module _ (i : ℕ) (l : i < places) (e : always (rule_at i) ≡ true) where
      same_row : masked_at avic i (m i).result ≡ (m i).result
      same_row = masked.fixed i l (present i l e)

      made_row : (n i).result ≡ masked_at avic i (finish (settings edition m) (rule_at i) (m i).result)
      made_row = ap (λ (r : Row). r.result) (required_row i l e)

      left : (f : CpuidResult → ℕ)
          → f (masked_at avic i (finish (settings edition m) (rule_at i) (m i).result)) ≡ f (masked_at avic i (m i).result)
          → f (n i).result ≡ f (m i).result
      left f kept = ap f made_row ∙ kept ∙ ap f same_row

    xfem_again : xfem n ≡ xfem m
    unfolding xfem
    xfem_again = left (Place.extended_state 0) (lit< tt) refl (λ r. r.eax) refl

    xsaves_eax : (n (Place.extended_state 1)).result.eax ≡ (m (Place.extended_state 1)).result.eax
    xsaves_eax = left (Place.extended_state 1) (lit< tt) refl (λ r. r.eax) refl

    xsaves_ecx_again : (n (Place.extended_state 1)).result.ecx ≡ bit_and (xss m) (masks_at avic (Place.extended_state 1)).ecx
    unfolding unless_no_xss settings enabled_by
    xsaves_ecx_again =
        ap (λ (r : CpuidResult). r.ecx) (made_row (Place.extended_state 1) (lit< tt) refl)
        ∙ ap (λ (x : ℕ). bit_and x (masks_at avic (Place.extended_state 1)).ecx) (xsaves_ecx m)

    xss_again : xss n ≡ xss m
    unfolding xss
    xss_again =
        rw (xsaves_eax, xsaves_ecx_again)
        (pick_again (has 1 (m (Place.extended_state 1)).result.eax && has 3 (m (Place.extended_state 1)).result.eax)
        (m (Place.extended_state 1)).result.ecx (masks_at avic (Place.extended_state 1)).ecx
        (ap (λ (r : CpuidResult). r.ecx) (same_row (Place.extended_state 1) (lit< tt) refl)))

    sev_again : (n Place.extended_sev_features).result.eax ≡ (m Place.extended_sev_features).result.eax
    sev_again = left Place.extended_sev_features (lit< tt) refl (λ r. r.eax) refl

    inputs_again : inputs_of n ≡ inputs_of m
    unfolding inputs_of
    inputs_again =
        let a : (n Place.extended_address_space_sizes).result.ecx ≡ (m Place.extended_address_space_sizes).result.ecx =
        left Place.extended_address_space_sizes (lit< tt) refl (λ r. r.ecx) refl in
        let b : (n Place.version_and_features).result.ebx ≡ (m Place.version_and_features).result.ebx =
        left Place.version_and_features (lit< tt) refl (λ r. r.ebx) refl in
        let d : (n Place.version_and_features).result.edx ≡ (m Place.version_and_features).result.edx =
        left Place.version_and_features (lit< tt) refl (λ r. r.edx) refl in
        let f : (n Place.processor_topology_definition).result.ebx ≡ (m Place.processor_topology_definition).result.ebx =
        left Place.processor_topology_definition (lit< tt) refl (λ r. r.ebx) refl in
        rw (a, b, d, f)

    mask_again : combined_mask n ≡ combined_mask m
    unfolding combined_mask
    mask_again = rw (xfem_again, xss_again)

    sums : (k : ℕ) → 2 ≤ k → k < 64 → has k (xfem m) ≡ true → sum_at n k ≡ sum_at m k
    sums k l u h = ap (λ (r : Row). r.result.eax + r.result.ebx) (component_row k l u (in_combined m k h))

    area_again : save_area n (xfem n) ≡ save_area m (xfem m)
    area_again =
        ap (save_area n) xfem_again
        ∙ le_antisymm (area_mono n m 64 (within_refl (xfem m)) sums) (area_mono m n 64 (within_refl (xfem m)) (λ k l u h. sym (sums k l u h)))

    settings_again : settings edition n ≡ settings edition m
    unfolding settings enabled_by
    settings_again = λ k. record {
      clears = ymm_clears edition;
      enabled = record { xfem = xfem_again k; xss = xss_again k; tsc_aux = has 9 (sev_again k) };
      save_area = area_again k;
      threads = thread_level (inputs_again k).t;
      cores = core_level (processors (topology_of (inputs_again k)));
    }

    -- ---- every row, the mask and the verdict

    pub row_again : (i : ℕ) → i < places → finished edition n i ≡ finished edition m i
    unfolding finished
    row_again i l = ap (λ (c : Settings). finish_row c (rule_at i) (n i)) settings_again ∙ finished_again i l

    required_again : (j : ℕ) → j < required_count → (n (place_required j)).present ≡ true
    required_again j l = ap (λ (r : Row). r.present) (required_row (place_required j) (required_place j l).0 (required_place j l).1)

    invlpgb_bit : has 3 (n Place.extended_address_space_sizes).result.ebx ≡ has 3 (m Place.extended_address_space_sizes).result.ebx
    invlpgb_bit =
        has_of_bit 3 _ _
        (ap (λ (r : CpuidResult). bit 3 r.ebx) (made_row Place.extended_address_space_sizes (lit< tt) refl)
        ∙ bit_and_lem 3 (address_sizes_ebx (m Place.extended_address_space_sizes).result.ebx) (masks_at avic Place.extended_address_space_sizes).ebx
        ∙ (let x : ℕ = (m Place.extended_address_space_sizes).result.ebx in omega (arith, sizes_bit_3 x, keeps_3 avic, bit_lt 3 x)))

    invlpgb_again : invlpgb_verdict n ≡ Ok tt
    unfolding invlpgb_verdict
    invlpgb_again = rw invlpgb_bit pass.invlpgb

    supplied_again : (k : ℕ) → 2 ≤ k → k < 64 → supplied n (combined_mask n) k ≡ true
    supplied_again k l u = rw mask_again (go (has k (combined_mask m)) refl)
      where
        go : (b : Bool) → has k (combined_mask m) ≡ b → pick b (n (Place.extended_state k)).present true ≡ true
        go true e = ap (λ (r : Row). r.present) (component_row k l u e)
        go false e = refl

    components_again : components_verdict n ≡ Ok tt
    unfolding components_verdict components_of
    components_again = ap (λ (f : Failing). refuse_at f missing_component) (lowest_all (supplied n (combined_mask n)) 2 62
        (λ k l u. supplied_again k l (omega arith)))

    area_verdict_again : area_verdict n ≡ Ok tt
    unfolding area_verdict
    area_verdict_again = rw area_again pass.area

    topology_again : topology_verdict n ≡ Ok tt
    unfolding topology_verdict
    topology_again = rw inputs_again pass.topology

    pub verdict_again : rows_verdict n ≡ Ok tt
    unfolding rows_verdict
    verdict_again =
        then_skips (present_required n required_again)
        ∙ then_skips invlpgb_again
        ∙ then_skips components_again
        ∙ then_skips area_verdict_again
        ∙ topology_again

    -- the whole answer
    pub built_again : built_from edition n ≡ built_from edition m
    unfolding built_from
    built_again =
        rw (verdict_again, accepted)
        (ap (λ (t : CpuidResults). record { verdict = (Ok tt); table = t }) (table_ext row_again mask_again))
