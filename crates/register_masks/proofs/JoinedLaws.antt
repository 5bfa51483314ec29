-- One server more. Two accepted row sets joined are accepted, whether 19 is due or not; on rows and combined mask the join is the and, and on
-- feature registers too where the entries are alike else.
use Rattle.std.specs.Prelude.{◌≡◌, Bool, ◌&&◌, ℕ, ◌+◌, ◌≤◌, ◌<◌, Err, Ok}
use Rattle.std.proofs.Math.Path.{refl, ap, subst}
use Rattle.std.proofs.Common.{sym, ap₂, ◌∙◌, arith}
use Rattle.std.proofs.Math.Bool.{true, false}
use Rattle.bits.specs.Choice.{pick}
use Rattle.bits.specs.ChoiceLaws.{never_both, and_both, and_implied, pick_true}
use Rattle.bits.specs.Search.{Failing}
use Rattle.bits.specs.SearchLaws.{lowest_all}
use Rattle.bits.specs.Bits.{has, Within}
use Rattle.bits.specs.BitsLaws.{within_or, within_eq, within_trans, and_within_left}
use Rattle.bits.proofs.BitsLaws.{has_and, has_mono}
use Rattle.x86defs.specs.declared.CpuidResult.{CpuidResult}
use Rattle.topology.specs.Topology.{Inputs, topology_of}
use Rattle.masking.specs.Kept.{places, kept_leaves, slot}
use Rattle.masking.specs.Place
use Rattle.table.specs.declared.Refusal.TheVariants.{InvlpgbUnavailable}
use Rattle.table.specs.Rows.{Rows}
use Rattle.checks.specs.ExtendedState.{xfem, xss, combined_mask, supplied, sum_at, save_area}
use Rattle.checks.specs.ExtendedStateLaws.{area_mono}
use Rattle.checks.specs.TopologyInputs.{inputs_of}
use Rattle.checks.specs.Checks.{refuse_at, missing_component, required_verdict, invlpgb_verdict, components_of, components_verdict, area_verdict, topology_verdict, topology_refusal, rows_verdict}
use Rattle.checks.specs.ChecksLaws.{AllPass, all_pass, required_present, present_required, component_present, demanded, then_skips}
use Rattle.finish.specs.Finish.{Rule, rule_at, enabled_by, settings, finished, unless_no_xss}
use Rattle.finish.specs.Finish.Needed.{extended_state1}
use Rattle.finish.specs.Finish.Rule.{made, needed, component}
use Rattle.finish.specs.Kinds.{Kinds, Registers, register_kinds, kinds_at, from_entry}
use Rattle.finish.specs.RuleKinds.{kinds_of, kinds_at_lem, component_kinds}
use Rattle.finish.specs.FeatureLaws.{both_enable}
use Rattle.finish.specs.MeetLaws.{meet_rows, MaskedState, FeaturesMeet}
use Rattle.finish.proofs.MeetLaws.{finish_meet_at}
use Rattle.finish.specs.PlaceLaws.{always, position, always_required, Sort, sort}
use Rattle.finish.specs.PlaceLaws.Sort.{made as made_here, required, subleaf}
use Rattle.finish.specs.RemainsLaws.{finished_present}
use Rattle.finish.proofs.RemainsLaws.{finished_result, made_remains, always_remains, component_finished}
use Rattle.finish.specs.XsavesLaws.{only_xsaves}
use Rattle.checks.specs.ExtendedStateLaws.{xsaves_ecx}
use Rattle.register_masks.specs.Join.{pooled_results, with_server}
use Rattle.register_masks.specs.Alike.{Alike}
use Rattle.register_masks.specs.JoinedEntryLaws.{keeps_28}
use Rattle.register_masks.proofs.JoinedEntryLaws.{results_joined}
use Rattle.register_masks.specs.JoinedLaws.{enabled_with_lem, mask_with, smaller_passes, xfem_with, xss_with}

module _ (a b : Rows) (okA : rows_verdict a ≡ Ok tt) (okB : rows_verdict b ≡ Ok tt) where
  pass_a : AllPass a
  pass_a = all_pass a okA

  xfem_first : Within (xfem (with_server a b)) (xfem a)
  xfem_first = within_trans (within_eq (xfem_with a b)) (and_within_left (xfem a) (xfem b))

  xss_first : Within (xss (with_server a b)) (xss a)
  xss_first = within_trans (within_eq (xss_with a b)) (and_within_left (xss a) (xss b))

  mask_first : Within (combined_mask (with_server a b)) (combined_mask a)
  unfolding combined_mask
  mask_first = within_or xfem_first xss_first

  required_ok : required_verdict (with_server a b) ≡ Ok tt
  unfolding with_server
  required_ok = present_required (with_server a b) (required_present a pass_a.required)

  invlpgb_ok : invlpgb_verdict (with_server a b) ≡ Ok tt
  unfolding invlpgb_verdict with_server kinds_at register_kinds slot kept_leaves
  invlpgb_ok =
      pick_true (Ok tt) (Err InvlpgbUnavailable)
      (has_and 3 (a Place.extended_address_space_sizes).result.ebx (b Place.extended_address_space_sizes).result.ebx
      ∙ and_both (demanded (has 3 (a Place.extended_address_space_sizes).result.ebx) InvlpgbUnavailable pass_a.invlpgb)
      (demanded (has 3 (b Place.extended_address_space_sizes).result.ebx) InvlpgbUnavailable (all_pass b okB).invlpgb))

  -- a needed subleaf is needed by the first, which has it
  components_ok : components_verdict (with_server a b) ≡ Ok tt
  unfolding components_verdict components_of with_server
  components_ok =
      ap (λ (x : Failing). refuse_at x missing_component)
      (lowest_all (supplied (with_server a b) (combined_mask (with_server a b))) 2 62 (λ k l u. at_k k l u (has k (combined_mask (with_server a b))) refl))
    where
      at_k : (k : ℕ) → 2 ≤ k → k < 2 + 62 → (t : Bool) → has k (combined_mask (with_server a b)) ≡ t
          → pick t (with_server a b (Place.extended_state k)).present true ≡ true
      at_k k l u true e = component_present a pass_a.components k l (omega arith) (has_mono k mask_first e)
      at_k k l u false e = refl

  -- the sums are the first's, over no larger a mask
  sums_first : (k : ℕ) → 2 ≤ k → k < 64 → sum_at (with_server a b) k ≡ sum_at a k
  unfolding with_server
  sums_first k l u =
      ap (λ (q : Kinds). (pooled_results q (a (Place.extended_state k)).result (b (Place.extended_state k)).result).eax
      + (pooled_results q (a (Place.extended_state k)).result (b (Place.extended_state k)).result).ebx) (component_kinds k l u)

  area_first : save_area (with_server a b) (xfem (with_server a b)) ≤ save_area a (xfem a)
  area_first = area_mono (with_server a b) a 64 xfem_first (λ k l u h. sums_first k l u)

  area_ok : area_verdict (with_server a b) ≡ Ok tt
  unfolding area_verdict
  area_ok = smaller_passes area_first pass_a.area

  inputs_first : inputs_of (with_server a b) ≡ inputs_of a
  unfolding inputs_of with_server kinds_at register_kinds slot kept_leaves
  inputs_first = cc (keeps_28 (a Place.version_and_features).result.edx (b Place.version_and_features).result.edx)

  topology_ok : topology_verdict (with_server a b) ≡ Ok tt
  unfolding topology_verdict
  topology_ok = ap (λ (i : Inputs). topology_refusal (topology_of i)) inputs_first ∙ pass_a.topology

  pub with_accepted : rows_verdict (with_server a b) ≡ Ok tt
  unfolding rows_verdict
  with_accepted = then_skips required_ok ∙ then_skips invlpgb_ok ∙ then_skips components_ok ∙ then_skips area_ok ∙ topology_ok

-- ---- which rows an accepted table has

module _ (edition : ℕ) where
  made_in : (m : Rows) (i : ℕ) → i < places → from_entry (rule_at i) ≡ false → (finished edition m i).present ≡ true
  made_in m i l e = finished_present edition m i ∙ made_remains (settings edition m) (λ j. (m j).present) i l e

  pub required_in : (m : Rows) → rows_verdict m ≡ Ok tt → (i : ℕ) → i < places → always (rule_at i) ≡ true → (finished edition m i).present ≡ true
  required_in m ok i l e =
      finished_present edition m i
      ∙ always_remains (settings edition m) (λ j. (m j).present) i l e
      ∙ subst (λ (n : ℕ). (m n).present ≡ true) (always_required i l e).1
      (required_present m (all_pass m ok).required (position i) (always_required i l e).0)

  -- a Dh subleaf from 2 up: by its bit of the combined mask alone
  component_in : (m : Rows) → rows_verdict m ≡ Ok tt → (k : ℕ) → 2 ≤ k → k < 64
      → (finished edition m (Place.extended_state k)).present ≡ has k (combined_mask m)
  component_in m ok k l u =
      component_finished edition m k l u ∙ and_implied (has k (combined_mask m)) _ (component_present m (all_pass m ok).components k l u)

  -- the rows that both tables have
  pub present_with : (a b : Rows) → rows_verdict a ≡ Ok tt → rows_verdict b ≡ Ok tt → MaskedState a → MaskedState b → (i : ℕ) → i < places
      → (finished edition (with_server a b) i).present ≡ ((finished edition a i).present && (finished edition b i).present)
  present_with a b p q ma mb i l = go (sort i l)
    where
      go : Sort i → (finished edition (with_server a b) i).present ≡ ((finished edition a i).present && (finished edition b i).present)
      go (made_here e) = rw (made_in (with_server a b) i l e, made_in a i l e, made_in b i l e)
      go (required e) = rw (required_in (with_server a b) (with_accepted a b p q) i l e, required_in a p i l e, required_in b q i l e)
      go (subleaf k e u v) =
          subst (λ (n : ℕ). (finished edition (with_server a b) n).present ≡ ((finished edition a n).present && (finished edition b n).present)) (sym e)
          (component_in (with_server a b) (with_accepted a b p q) k u v
          ∙ ap (has k) (mask_with a b ma mb)
          ∙ has_and k (combined_mask a) (combined_mask b)
          ∙ sym (ap₂ ◌&&◌ (component_in a p k u v) (component_in b q k u v)))

  -- ---- feature registers

  -- D.1.ECX ends as XSS
  ends_as_xss : (m : Rows) (i : ℕ) → i < places → rule_at i ≡ needed extended_state1
      → unless_no_xss (settings edition m).enabled (m i).result.ecx ≡ (settings edition m).enabled.xss
  unfolding settings enabled_by unless_no_xss
  ends_as_xss m i l e =
      subst (λ (n : ℕ). unless_no_xss (settings edition m).enabled (m n).result.ecx ≡ (settings edition m).enabled.xss)
      (sym (only_xsaves i l e)) (xsaves_ecx m)

  enabled_settings : (a b : Rows) → (settings edition (with_server a b)).enabled ≡ both_enable (settings edition a).enabled (settings edition b).enabled
  unfolding settings
  enabled_settings a b = enabled_with_lem a b

  -- a row that not every table has holds no features
  no_features : (i : ℕ) → i < places → (z x y : CpuidResult) → always (rule_at i) ≡ false → FeaturesMeet (kinds_at i) z x y
  no_features i l z x y e = subst (λ (k : Kinds). FeaturesMeet k z x y) (sym (kinds_at_lem i l)) (go (rule_at i) e)
    where
      go : (t : Rule) → always t ≡ false → FeaturesMeet (kinds_of (kinds_at i) t) z x y
      go (made t) e = record { eax = tt; ebx = tt; ecx = tt; edx = tt }
      go (needed t) e = absurd (never_both refl e)
      go (component k) e = record { eax = tt; ebx = tt; ecx = tt; edx = tt }

  -- the and of both tables', where the entries are alike else
  pub features_with : (a b : Rows) → rows_verdict a ≡ Ok tt → rows_verdict b ≡ Ok tt → (i : ℕ) → i < places
      → (always (rule_at i) ≡ true → Registers Alike (kinds_at i) (a i).result (b i).result)
      → FeaturesMeet (kinds_at i) (finished edition (with_server a b) i).result (finished edition a i).result (finished edition b i).result
  unfolding with_server meet_rows settings
  features_with a b p q i l alike = go (always (rule_at i)) refl
    where
      go : (t : Bool) → always (rule_at i) ≡ t
          → FeaturesMeet (kinds_at i) (finished edition (with_server a b) i).result (finished edition a i).result (finished edition b i).result
      go false e = no_features i l _ _ _ e
      go true e =
          let s : (with_server a b i).result ≡ (meet_rows a b i).result = results_joined (kinds_at i) (alike e) in
          rw (
            finished_result edition (with_server a b) i (required_in (with_server a b) (with_accepted a b p q) i l e),
            finished_result edition a i (required_in a p i l e),
            finished_result edition b i (required_in b q i l e),
            s,
          )
          (finish_meet_at (settings edition (with_server a b)) (settings edition a) (settings edition b) (enabled_settings a b) refl refl a b i l
          (λ r. (
            subst (λ (x : CpuidResult). unless_no_xss (settings edition (with_server a b)).enabled x.ecx ≡ (settings edition (with_server a b)).enabled.xss) s
                (ends_as_xss (with_server a b) i l r),
            ends_as_xss a i l r,
            ends_as_xss b i l r,
          )))
