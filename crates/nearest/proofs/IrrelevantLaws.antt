-- At a irrelevant place no row changes the answer.
use Rattle.std.specs.Prelude.{◌≡◌, Bool, ◌||◌, ◌≢◌, leb, Err, Ok}
use Rattle.std.proofs.Math.Path.{refl, ap, fun_ext}
use Rattle.std.proofs.Common.{sym, ◌∙◌, arith}
use Rattle.std.proofs.Math.Bool.{true, false, not}
use Prim.Native.Nat.{ℕ, ◌-◌, ◌≤◌, ◌<◌}
use Rattle.std.proofs.Math.Dec.{eqb}
use borrow.Author.Tests.{eqb-true, eqb-false, ltb-true, leb-true, le-leb, lt-ltb}
use Rattle.bits.specs.Choice.{pick}
use Rattle.bits.specs.ChoiceLaws.{never_both, pick_true, and_left, and_right, and_both}
use Rattle.bits.specs.Bits.{has}
use Rattle.x86defs.specs.declared.CpuidResult.{CpuidResult}
use Rattle.masking.specs.Place
use Rattle.table.specs.declared.Refusal.{Refusal}
use Rattle.table.specs.Rows.{Row, Rows, row, vacant}
use Rattle.table.specs.Table.{table_of}
use Rattle.checks.specs.ExtendedState.{combined_mask}
use Rattle.checks.specs.Checks.{invlpgb_of, required_verdict, invlpgb_verdict, rows_verdict}
use Rattle.finish.specs.Finish.{Rule, Settings, rule_at, finish_row, enabled_by, settings, finished}
use Rattle.finish.specs.PlaceLaws.{component_rule}
use Rattle.finish.specs.RowsBuilt.{table_for}
use Rattle.nearest.specs.SameVerdict.{same_from}
use Rattle.nearest.proofs.SameLaws.{answer_same}
use Rattle.nearest.specs.WithRow.{with_row}
use Rattle.nearest.specs.WithRowLaws.{put_other, required_same}
use Rattle.nearest.specs.Irrelevant.{refuses, is_component, is_level, is_read, irrelevant_at, irrelevant}
use Rattle.nearest.specs.FlippedReadLaws.{Unread, mask_same, verdict_same, settings_same}
use Rattle.nearest.specs.IrrelevantLaws.{or_left, or_right}
use Rattle.table.specs.Verdict.{Verdict}

-- a refused answer has an empty table, whatever the rows
refused_same : (n : ℕ) (m o : Rows) (r : Refusal) → rows_verdict m ≡ Err r → rows_verdict o ≡ Err r → same_from n o m ≡ true
refused_same n m o r e f =
    answer_same (f ∙ sym e) (ap (λ (v : Verdict). table_for n v o) f ∙ sym (ap (λ (v : Verdict). table_for n v m) e))

module _ (n i : ℕ) (x : CpuidResult) (m : Rows) (present : (m i).present ≡ true) where
  abbrev o : Rows
  o = with_row i x m

  -- ---- a required leaf is missing

  required_irrelevant : (r : Refusal) → required_verdict m ≡ Err r → same_from n o m ≡ true
  required_irrelevant r e = refused_same n m o r (found m e) (found o (required_same i x m present ∙ e))
    where
      found : (m : Rows) → required_verdict m ≡ Err r → rows_verdict m ≡ Err r
      found m f = unfold rows_verdict in rw f

  -- ---- INVLPGB is clear

  invlpgb_irrelevant : (r : Refusal) → required_verdict m ≡ Ok tt → invlpgb_verdict m ≡ Err r → i ≢ Place.extended_address_space_sizes
      → same_from n o m ≡ true
  invlpgb_irrelevant r e f d =
      refused_same n m o r (found m e f)
      (found o (required_same i x m present ∙ e)
      (unfold invlpgb_verdict in ap (λ (q : Row). invlpgb_of q.result) (put_other i x m Place.extended_address_space_sizes (λ z. d (sym z))) ∙ f))
    where
      found : (m : Rows) → required_verdict m ≡ Ok tt → invlpgb_verdict m ≡ Err r → rows_verdict m ≡ Err r
      found m g h = unfold rows_verdict in rw (g, h)

  -- ---- the place is not read

  unread_refused : Unread m i → refuses (rows_verdict m) ≡ true → same_from n o m ≡ true
  unread_refused u e = go (rows_verdict m) refl e
    where
      go : (v : Verdict) → rows_verdict m ≡ v → refuses v ≡ true → same_from n o m ≡ true
      go (Ok _) f g = absurd (never_both g refl)
      go (Err r) f g = refused_same n m o r f (verdict_same i x m present u ∙ f)

  -- a row that is not read and ends as it did
  module _ (u : Unread m i) (sev : Place.extended_sev_features ≢ i)
      (ends : finish_row (settings n m) (rule_at i) (row x) ≡ finish_row (settings n m) (rule_at i) (m i)) where
    finished_same : finished n o ≡ finished n m
    unfolding finished with_row
    finished_same = fun_ext (λ j. ap (λ (c : Settings). finish_row c (rule_at j) (o j)) (settings_same i x m present u sev n) ∙ go j (eqb j i) refl)
      where
        go : (j : ℕ) (b : Bool) → eqb j i ≡ b
            → finish_row (settings n m) (rule_at j) (pick b (row x) (m j)) ≡ finish_row (settings n m) (rule_at j) (m j)
        go j true f = rw (eqb-true j i f) ends
        go j false f = refl

    table_same : (v : Verdict) → table_for n v o ≡ table_for n v m
    table_same (Ok _) = λ k. table_of (finished_same k) (mask_same i x m present u k)
    table_same (Err r) = refl

    unread_finished : same_from n o m ≡ true
    unread_finished =
        answer_same (verdict_same i x m present u)
        (ap (λ (v : Verdict). table_for n v o) (verdict_same i x m present u) ∙ table_same (rows_verdict m))

  -- a D subleaf that the mask lacks is dropped
  component_irrelevant : (k : ℕ) → i ≡ Place.extended_state k → 2 ≤ k → k < 64 → has k (combined_mask m) ≡ false → same_from n o m ≡ true
  component_irrelevant k e l h f = unread_finished unread (λ z. omega arith) (dropped (row x) ∙ sym (dropped (m i)))
    where
      unread : Unread m i
      unread = record {
        version = λ z. omega arith;
        definition = λ z. omega arith;
        sizes = λ z. omega arith;
        state0 = λ z. omega arith;
        state1 = λ z. omega arith;
        states = λ j a b c z. let q : j ≡ k = omega arith in never_both (rw q at c) f;
      }

      dropped : (r : Row) → finish_row (settings n m) (rule_at i) r ≡ vacant
      dropped r = rw (e, component_rule k l h) (unfold settings enabled_by combined_mask in rw f)

  -- no component, and none that is read
  module _ (c : is_component i ≡ false) where
    not_state : (k : ℕ) → 2 ≤ k → k < 64 → Place.extended_state k ≢ i
    not_state k l h z = never_both (and_both (le-leb (Place.extended_state 2) i (omega arith)) (lt-ltb i (Place.extended_state 64) (omega arith))) c

    -- B.0 and B.1 are made here
    level_irrelevant : is_level i ≡ true → same_from n o m ≡ true
    level_irrelevant e = go (eqb i Place.thread_level) refl e
      where
        unread : (i < 6) → (1 < i) → Unread m i
        unread l h = record {
          version = λ z. omega arith;
          definition = λ z. omega arith;
          sizes = λ z. omega arith;
          state0 = λ z. omega arith;
          state1 = λ z. omega arith;
          states = λ k a b d. not_state k a b;
        }

        -- whatever stands there, a row of these registers is made of it
        made : (r : CpuidResult) → {t : Rule} → rule_at i ≡ t → ((x : Row) → finish_row (settings n m) t x ≡ pick x.present (row r) vacant)
            → finish_row (settings n m) (rule_at i) (row x) ≡ finish_row (settings n m) (rule_at i) (m i)
        made r e f = rw e (f (row x) ∙ sym (f (m i) ∙ pick_true _ _ present))

        go : (b : Bool) → eqb i Place.thread_level ≡ b → (b || eqb i Place.core_level) ≡ true → same_from n o m ≡ true
        go true f g =
            let q : i ≡ Place.thread_level = eqb-true i Place.thread_level f in
            unread_finished (unread (omega arith) (omega arith)) (λ z. omega arith)
            (made (settings n m).threads (ap rule_at q) (λ y. refl))
        go false f g =
            let q : i ≡ Place.core_level = eqb-true i Place.core_level g in
            unread_finished (unread (omega arith) (omega arith)) (λ z. omega arith)
            (made (settings n m).cores (ap rule_at q) (λ y. refl))

    not_read : is_read i ≡ false → Unread m i
    not_read e =
        let a = or_left _ _ e in
        let b = or_right (eqb i Place.version_and_features || eqb i Place.processor_topology_definition) _ e in
        let d = or_right (eqb i Place.extended_address_space_sizes) _ b in
        record {
          version = λ z. eqb-false i Place.version_and_features (or_left _ _ a) (sym z);
          definition = λ z. eqb-false i Place.processor_topology_definition (or_right (eqb i Place.version_and_features) _ a) (sym z);
          sizes = λ z. eqb-false i Place.extended_address_space_sizes (or_left _ _ b) (sym z);
          state0 = λ z. eqb-false i (Place.extended_state 0) (or_left _ _ d) (sym z);
          state1 = λ z. eqb-false i (Place.extended_state 1) (or_right (eqb i (Place.extended_state 0)) _ d) (sym z);
          states = λ k l h f. not_state k l h;
        }

  at_irrelevant : irrelevant_at (refuses (rows_verdict m)) (combined_mask m) i ≡ true → same_from n o m ≡ true
  unfolding irrelevant_at
  at_irrelevant = go (is_component i) refl
    where
      k : ℕ
      k = i - Place.extended_state 0

      component : is_component i ≡ true → not (has k (combined_mask m)) ≡ true → same_from n o m ≡ true
      component c e =
          let l : Place.extended_state 2 ≤ i = leb-true _ i (and_left _ _ c) in
          let h : i < Place.extended_state 64 = ltb-true i _ (and_right (leb (Place.extended_state 2) i) _ c) in
          component_irrelevant k (omega arith) (omega arith) (omega arith) (lacks (has k (combined_mask m)) e)
        where
          lacks : (b : Bool) → not b ≡ true → b ≡ false
          lacks true f = absurd (never_both f refl)
          lacks false f = refl

      other : is_component i ≡ false → (a b : Bool) → is_level i ≡ a → is_read i ≡ b → pick a true (pick b false (refuses (rows_verdict m))) ≡ true
          → same_from n o m ≡ true
      other c true b f g e = level_irrelevant c f
      other c false true f g e = absurd (never_both e refl)
      other c false false f g e = unread_refused (not_read c g) e

      go : (b : Bool) → is_component i ≡ b
          → pick b (not (has k (combined_mask m))) (pick (is_level i) true (pick (is_read i) false (refuses (rows_verdict m)))) ≡ true
          → same_from n o m ≡ true
      go true c e = component c e
      go false c e = other c (is_level i) (is_read i) refl refl e

  pub irrelevant_same : irrelevant m i ≡ true → same_from n o m ≡ true
  unfolding irrelevant
  irrelevant_same = go (required_verdict m) (invlpgb_verdict m) refl refl
    where
      differs : (b : Bool) → eqb i Place.extended_address_space_sizes ≡ b → not b ≡ true → i ≢ Place.extended_address_space_sizes
      differs true f g = absurd (never_both g refl)
      differs false f g = eqb-false i Place.extended_address_space_sizes f

      go : (v w : Verdict) → required_verdict m ≡ v → invlpgb_verdict m ≡ w
          → pick (refuses v) true
          (pick (refuses w) (not (eqb i Place.extended_address_space_sizes)) (irrelevant_at (refuses (rows_verdict m)) (combined_mask m) i))
          ≡ true
          → same_from n o m ≡ true
      go (Err r) w f g e = required_irrelevant r f
      go (Ok _) (Err r) f g e = invlpgb_irrelevant r f g (differs (eqb i Place.extended_address_space_sizes) refl e)
      go (Ok _) (Ok _) f g e = at_irrelevant e
