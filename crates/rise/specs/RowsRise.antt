-- The rise, of masked first entries: from an accepted A and entries of B that compare with A's.
use Rattle.std.specs.Prelude.{◌≡◌, refl, Bool, true, false, ◌⊎◌, ℕ, ◌+◌, ◌≤◌, ◌<◌, Err, Ok}
use Rattle.std.proofs.Common.{sym, ap₂, ◌∙◌, subst, inl, inr, arith, lit<}
use Rattle.std.proofs.Math.Path.{ap}
use Rattle.bits.specs.ChoiceLaws.{and_left, and_both, pick_true}
use Rattle.bits.specs.Bits.{has, Within}
use Rattle.bits.specs.BitsLaws.{within_or}
use Rattle.bits.proofs.BitsLaws.{has_mono}
use Rattle.topology.specs.Topology.{Inputs, topology_of}
use Rattle.masking.specs.Kept.{places, kept_leaves, slot}
use Rattle.masking.specs.Place
use Rattle.table.specs.declared.Refusal.TheVariants.{InvlpgbUnavailable}
use Rattle.table.specs.Refusal.{and_then}
use Rattle.table.specs.Rows.{Rows}
use Rattle.checks.specs.Required.{place_required}
use Rattle.checks.specs.ExtendedState.{xfem, xss, combined_mask, sum_at}
use Rattle.checks.specs.ExtendedStateLaws.{area_mono, xss_mono, in_combined}
use Rattle.checks.specs.TopologyInputs.{inputs_of}
use Rattle.finish.specs.Finish.{ymm_clears, rule_at, enabled_by, settings, remains, finished}
use Rattle.finish.specs.FeatureLaws.{ClearsFewer}
use Rattle.finish.specs.Kinds.{Kinds, kinds, EntryAtLeast, TableAtLeast, Registers, register_kinds, kinds_at, from_entry}
use Rattle.finish.specs.Kinds.Kind.{other}
use Rattle.finish.specs.RuleKinds.{kinds_of, kinds_at_lem, component_kinds}
use Rattle.finish.specs.XsavesLaws.{XsavesEdx}
use Rattle.finish.proofs.XsavesLaws.{xsaves_at}
use Rattle.checks.specs.Checks.{invlpgb_verdict, components_verdict, area_verdict, topology_verdict, topology_refusal, rows_verdict}
use Rattle.checks.specs.ChecksLaws.{AllPass, all_pass, required_present, present_required, component_present, demanded, then_accepted, then_skips}
use Rattle.finish.specs.PlaceLaws.{always, always_from_entry, required_place, position, always_required, component_rule, Sort, sort}
use Rattle.finish.specs.RemainsLaws.{finished_present}
use Rattle.finish.proofs.RemainsLaws.{finished_result, made_remains, always_remains, component_finished}
use Rattle.finish.specs.PlaceLaws.Sort.{made, required, subleaf}
use Rattle.rise.specs.Rise.{EntryRises}
use Rattle.rise.specs.RuleLaws.{SettingsRise, finish_rises, remains_rises}

-- ---- the theorem on rows, A's under edition nA and B's under nB, which clears no bit that nA leaves: the same edition, or from 2 to 1

module _ (nA nB : ℕ) (fewer : ClearsFewer (ymm_clears nA) (ymm_clears nB)) (A B : Rows) (zeroA : XsavesEdx A) (zeroB : XsavesEdx B) (accepted : rows_verdict A ≡ Ok tt)
    (entries : (i : ℕ) → i < places → from_entry (rule_at i) ≡ true → (finished nA A i).present ≡ true → EntryRises i (A i) (B i)) where
  pass : AllPass A
  pass = all_pass A accepted

  present_a : (i : ℕ) → i < places → always (rule_at i) ≡ true → (A i).present ≡ true
  present_a i l e =
      subst (λ (n : ℕ). (A n).present ≡ true) (always_required i l e).1
      (required_present A pass.required (position i) (always_required i l e).0)

  in_table_a : (i : ℕ) → i < places → always (rule_at i) ≡ true → (finished nA A i).present ≡ true
  in_table_a i l e = finished_present nA A i ∙ always_remains (settings nA A) (λ j. (A j).present) i l e ∙ present_a i l e

  entry : (i : ℕ) → i < places → always (rule_at i) ≡ true → EntryRises i (A i) (B i)
  entry i l e = entries i l (always_from_entry (rule_at i) e) (in_table_a i l e)

  -- its registers, by its rule's kinds
  by_rule : (i : ℕ) → i < places → Registers EntryAtLeast (kinds_at i) (A i).result (B i).result
      → Registers EntryAtLeast (kinds_of (kinds_at i) (rule_at i)) (A i).result (B i).result
  by_rule i l = subst (λ (k : Kinds). Registers EntryAtLeast k (A i).result (B i).result) (kinds_at_lem i l)

  at : (i : ℕ) → i < places → always (rule_at i) ≡ true → Registers EntryAtLeast (kinds_of (kinds_at i) (rule_at i)) (A i).result (B i).result
  at i l e = by_rule i l (entry i l e).registers

  component_in_table_a : (k : ℕ) → 2 ≤ k → k < 64 → has k (combined_mask A) ≡ true → (finished nA A (Place.extended_state k)).present ≡ true
  component_in_table_a k l u h = component_finished nA A k l u ∙ and_both h (component_present A pass.components k l u h)

  component_entry : (k : ℕ) → 2 ≤ k → k < 64 → has k (combined_mask A) ≡ true
      → Registers EntryAtLeast (kinds other other other other) (A (Place.extended_state k)).result (B (Place.extended_state k)).result
  component_entry k l u h =
      let i : ℕ = Place.extended_state k in
      subst (λ (q : Kinds). Registers EntryAtLeast q (A i).result (B i).result) (component_kinds k l u)
      (entries i (omega arith) (ap from_entry (component_rule k l u)) (component_in_table_a k l u h)).registers

  threads_same : (A Place.processor_topology_definition).result.ebx ≡ (B Place.processor_topology_definition).result.ebx
  unfolding kinds_at register_kinds slot kept_leaves
  threads_same = (at Place.processor_topology_definition (lit< tt) refl).ebx

  sev_rises : Within (A Place.extended_sev_features).result.eax (B Place.extended_sev_features).result.eax
  unfolding kinds_at register_kinds slot kept_leaves
  sev_rises = (at Place.extended_sev_features (lit< tt) refl).eax

  same_inputs : inputs_of A ≡ inputs_of B
  unfolding inputs_of
  same_inputs =
      cc (
        (at Place.extended_address_space_sizes (lit< tt) refl).ecx,
        (at Place.version_and_features (lit< tt) refl).ebx,
        (at Place.version_and_features (lit< tt) refl).edx.1,
        threads_same,
      )

  xfem_rises : Within (xfem A) (xfem B)
  unfolding xfem
  xfem_rises = (at (Place.extended_state 0) (lit< tt) refl).eax

  xss_rises : Within (xss A) (xss B)
  xss_rises =
      xss_mono A B (at (Place.extended_state 1) (lit< tt) refl).eax (at (Place.extended_state 1) (lit< tt) refl).ecx

  sums : (k : ℕ) → 2 ≤ k → k < 64 → has k (xfem A) ≡ true → sum_at A k ≡ sum_at B k
  sums k l u h =
      let e = component_entry k l u (in_combined A k h) in
      ap₂ ◌+◌ e.eax e.ebx

  settings_rise : SettingsRise (settings nA A) (settings nB B)
  unfolding settings enabled_by
  settings_rise = record {
    clears = fewer;
    enabled = record { xfem = xfem_rises; xss = xss_rises; tsc_aux = has_mono 9 sev_rises };
    save_area = area_mono A B 64 xfem_rises sums;
    threads = cc same_inputs;
    cores = cc same_inputs;
  }

  -- every row of A's, with its registers
  pub present_rises : (i : ℕ) → i < places → (finished nA A i).present ≡ true → (finished nB B i).present ≡ true
  present_rises i l h =
      finished_present nB B i
      ∙ go (from_entry (rule_at i)) refl
    where
      go : (b : Bool) → from_entry (rule_at i) ≡ b → remains (settings nB B) (rule_at i) (B i).present ≡ true
      go true e = remains_rises settings_rise (rule_at i) (A i).present (B i).present (λ _. (entries i l e h).present) (sym (finished_present nA A i) ∙ h)
      go false e = made_remains (settings nB B) (λ j. (B j).present) i l e

  pub registers_rise_lem : (i : ℕ) → i < places → (finished nA A i).present ≡ true
      → Registers TableAtLeast (kinds_at i) (finished nA A i).result (finished nB B i).result
  registers_rise_lem i l h =
      subst (λ (k : Kinds). Registers TableAtLeast k (finished nA A i).result (finished nB B i).result) (sym (kinds_at_lem i l))
      (rw (finished_result nA A i h, finished_result nB B i (present_rises i l h))
      (finish_rises settings_rise (kinds_at i) (rule_at i) (A i).result (B i).result (λ e. by_rule i l (entries i l e h).registers)
      (xsaves_at nA A zeroA i l) (xsaves_at nB B zeroB i l)))

  -- beyond these only the subleaves of further bits
  abbrev pub Beyond : ℕ → Type 0
  Beyond i = (k : ℕ) × (i ≡ Place.extended_state k) × (2 ≤ k) × (k < 64) × (has k (combined_mask B) ≡ true) × (has k (combined_mask A) ≡ false)

  pub others_further : (i : ℕ) → i < places → (finished nB B i).present ≡ true → ((finished nA A i).present ≡ true) ⊎ Beyond i
  others_further i l h = go (sort i l)
    where
      go : Sort i → ((finished nA A i).present ≡ true) ⊎ Beyond i
      go (made e) = inl (finished_present nA A i ∙ made_remains (settings nA A) (λ j. (A j).present) i l e)
      go (required e) = inl (in_table_a i l e)
      go (subleaf k e p q) = in_mask (has k (combined_mask A)) refl
        where
          in_b : has k (combined_mask B) ≡ true
          in_b = and_left _ _ (sym (component_finished nB B k p q) ∙ subst (λ (j : ℕ). (finished nB B j).present ≡ true) e h)

          in_mask : (b : Bool) → has k (combined_mask A) ≡ b → ((finished nA A i).present ≡ true) ⊎ Beyond i
          in_mask true f = inl (subst (λ (j : ℕ). (finished nA A j).present ≡ true) (sym e) (component_in_table_a k p q f))
          in_mask false f = inr (k, e, p, q, in_b, f)

  pub mask_rises : Within (combined_mask A) (combined_mask B)
  unfolding combined_mask
  mask_rises = within_or xfem_rises xss_rises

  invlpgb_b : invlpgb_verdict B ≡ Ok tt
  unfolding invlpgb_verdict
  invlpgb_b =
      pick_true (Ok tt) (Err InvlpgbUnavailable)
      (has_mono 3 (at Place.extended_address_space_sizes (lit< tt) refl).ebx (demanded _ InvlpgbUnavailable pass.invlpgb))

  topology_b : topology_verdict B ≡ Ok tt
  unfolding topology_verdict
  topology_b = ap (λ (i : Inputs). topology_refusal (topology_of i)) (sym same_inputs) ∙ pass.topology

  -- only the extended state can refuse B
  pub verdict_rises : rows_verdict B ≡ and_then (components_verdict B) (area_verdict B)
  unfolding rows_verdict
  verdict_rises =
      then_skips (present_required B (λ j l. (entry (place_required j) (required_place j l).0 (required_place j l).1).present))
      ∙ then_skips invlpgb_b
      ∙ ap (and_then (components_verdict B)) (ap (and_then (area_verdict B)) topology_b ∙ then_accepted (area_verdict B))
