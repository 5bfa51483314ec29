-- Of two accepted sets that differ at one place, the finished row there decides: finishing keeps in a row all that other rows depend on, so that the
-- same finished row leaves all others the same.
use Rattle.std.specs.Prelude.{◌≡◌, Bool, true, false, ℕ, ◌+◌, ◌≤◌, ◌<◌, eqb, Ok}
use Rattle.std.proofs.Math.Path.{refl, ap, fun_ext}
use Rattle.std.proofs.Common.{sym, ◌∙◌, arith, eqb-true}
use Rattle.std.specs.Int.Bits.{bit_or}
use Rattle.std.proofs.lemmas.Bool.{eqb-false}
use Rattle.bits.specs.Bits.{has, bit}
use Rattle.bits.specs.BitsLaws.{within_refl}
use Rattle.x86defs.specs.declared.CpuidResult.{CpuidResult}
use Rattle.x86defs.specs.Fields.{cut}
use Rattle.x86defs.specs.Fields.Field.{nc, apic_core_id_size, lps_per_package, threads_per_compute_unit}
use Rattle.x86defs.specs.VersionAndFeaturesEdx
use Rattle.x86defs.specs.ExtendedSevFeaturesEax as Sev
use Rattle.topology.specs.Topology.{inputs, topology_of, processors, thread_level, core_level}
use Rattle.masking.specs.Kept.{places}
use Rattle.masking.specs.Place
use Rattle.table.specs.Rows.{Row, Rows}
use Rattle.table.specs.Table.{table_of}
use Rattle.checks.specs.ExtendedState.{xfem, xss_of, xss, combined_mask, sum_at, save_area}
use Rattle.checks.specs.ExtendedStateLaws.{area_mono, in_combined}
use Rattle.checks.specs.TopologyInputs.{inputs_of}
use Rattle.checks.specs.Checks.{rows_verdict}
use Rattle.finish.specs.Finish.{Needed, Settings, rule_at, change_row, finish_row, remains, enabled_by, ymm_clears, settings, finished}
use Rattle.finish.specs.Finish.Needed.{version_and_features, extended_state0, extended_address_space_sizes, untouched}
use Rattle.finish.specs.Finish.Rule.{needed}
use Rattle.finish.specs.RemainsLaws.{finished_present}
use Rattle.finish.specs.RowsBuilt.{table_for}
use Rattle.nearest.specs.SameVerdict.{same_result, same_from}
use Rattle.nearest.specs.SameLaws.{result_equal}
use Rattle.nearest.proofs.SameLaws.{answer_same}
use Rattle.nearest.specs.WithRow.{with_row}
use Rattle.nearest.specs.WithRowLaws.{put_other, put_present}
use Rattle.nearest.specs.FinishedRowLaws.{component_kept, finished_differs, needed_kept, xss_kept}
use Rattle.table.specs.Verdict.{Verdict}

-- ---- the same finished row

module _ (n i : ℕ) (x : CpuidResult) (m : Rows) (present : (m i).present ≡ true)
    (same : (finished n (with_row i x m) i).result ≡ (finished n m i).result) where
  abbrev o : Rows
  o = with_row i x m

  -- what finishing keeps of a row is the same at each place
  kept_same : {A : Type 0} (read : CpuidResult → A) (j : ℕ) → ((o j).present ≡ true → read (finished n o j).result ≡ read (o j).result)
      → ((m j).present ≡ true → read (finished n m j).result ≡ read (m j).result) → read (o j).result ≡ read (m j).result
  kept_same read j f g = go (eqb j i) refl
    where
      go : (b : Bool) → eqb j i ≡ b → read (o j).result ≡ read (m j).result
      go true e =
          let q : j ≡ i = eqb-true j i e in
          let there : (m j).present ≡ true = ap (λ (k : ℕ). (m k).present) q ∙ present in
          sym (f (put_present i x m present j ∙ there))
          ∙ ap read (ap (λ (k : ℕ). (finished n o k).result) q ∙ same ∙ sym (ap (λ (k : ℕ). (finished n m k).result) q)) ∙ g there
      go false e = ap (λ (r : Row). read r.result) (put_other i x m j (eqb-false j i e))

  -- a register that the rule of a required row keeps
  register_same : (read : CpuidResult → ℕ) (j : ℕ) (t : Needed) → rule_at j ≡ needed t
      → ((c : Settings) (r : CpuidResult) → read (change_row c t r) ≡ read r) → read (o j).result ≡ read (m j).result
  register_same read j t e f = kept_same read j (kept o) (kept m)
    where
      kept : (q : Rows) → (q j).present ≡ true → read (finished n q j).result ≡ read (q j).result
      kept q p = ap read (needed_kept n q j t e p) ∙ f (settings n q) (q j).result

  xfem_same : xfem o ≡ xfem m
  unfolding xfem
  xfem_same = register_same (λ r. r.eax) (Place.extended_state 0) extended_state0 refl (λ c r. refl)

  xss_same : xss o ≡ xss m
  unfolding xss
  xss_same = kept_same xss_of (Place.extended_state 1) (xss_kept n o) (xss_kept n m)

  mask_same : combined_mask o ≡ combined_mask m
  unfolding combined_mask
  mask_same k = bit_or (xfem_same k) (xss_same k)

  sev_same : (o Place.extended_sev_features).result.eax ≡ (m Place.extended_sev_features).result.eax
  sev_same = register_same (λ r. r.eax) Place.extended_sev_features untouched refl (λ c r. refl)

  sum_same : (k : ℕ) → 2 ≤ k → k < 64 → has k (xfem m) ≡ true → sum_at o k ≡ sum_at m k
  sum_same k l u e =
      let h : has k (combined_mask m) ≡ true = in_combined m k e in
      kept_same (λ r. r.eax + r.ebx) (Place.extended_state k)
      (λ p. ap (λ (r : CpuidResult). r.eax + r.ebx) (component_kept n o k l u (ap (has k) mask_same ∙ h) p))
      (λ p. ap (λ (r : CpuidResult). r.eax + r.ebx) (component_kept n m k l u h p))

  area_same : save_area o (xfem o) ≡ save_area m (xfem m)
  area_same =
      ap (save_area o) xfem_same
      ∙ (let a : save_area o (xfem m) ≤ save_area m (xfem m) = area_mono o m 64 (within_refl (xfem m)) sum_same in
      let b : save_area m (xfem m) ≤ save_area o (xfem m) = area_mono m o 64 (within_refl (xfem m)) (λ k l u e. sym (sum_same k l u e)) in
      omega arith)

  inputs_same : inputs_of o ≡ inputs_of m
  unfolding inputs_of
  inputs_same =
      let sizes : (o Place.extended_address_space_sizes).result.ecx ≡ (m Place.extended_address_space_sizes).result.ecx =
      register_same (λ r. r.ecx) Place.extended_address_space_sizes extended_address_space_sizes refl (λ c r. refl) in
      let count : (o Place.version_and_features).result.ebx ≡ (m Place.version_and_features).result.ebx =
      register_same (λ r. r.ebx) Place.version_and_features version_and_features refl (λ c r. refl) in
      let threaded : (o Place.version_and_features).result.edx ≡ (m Place.version_and_features).result.edx =
      register_same (λ r. r.edx) Place.version_and_features version_and_features refl (λ c r. refl) in
      let definition : (o Place.processor_topology_definition).result.ebx ≡ (m Place.processor_topology_definition).result.ebx =
      register_same (λ r. r.ebx) Place.processor_topology_definition untouched refl (λ c r. refl) in
      λ k. inputs (cut apic_core_id_size (sizes k)) (cut nc (sizes k)) (cut lps_per_package (count k))
      (bit (VersionAndFeaturesEdx.position VersionAndFeaturesEdx.VersionAndFeaturesEdx.mt_per_socket) (threaded k))
      (cut threads_per_compute_unit (definition k))

  settings_same : settings n o ≡ settings n m
  unfolding settings enabled_by
  settings_same k = record {
    clears = ymm_clears n;
    enabled = record {
      xfem = xfem_same k;
      xss = xss_same k;
      tsc_aux = has (Sev.position Sev.ExtendedSevFeaturesEax.tsc_aux_virtualization) (sev_same k);
    };
    save_area = area_same k;
    threads = thread_level (inputs_same k).t;
    cores = core_level (processors (topology_of (inputs_same k)));
  }

  row_same : finished n o i ≡ finished n m i
  row_same =
      let p : (finished n o i).present ≡ (finished n m i).present =
      finished_present n o i
      ∙ (λ k. remains (settings_same k) (rule_at i) (put_present i x m present i k))
      ∙ sym (finished_present n m i) in λ k.
      record { present = p k; result = same k }

  finished_same : finished n o ≡ finished n m
  finished_same = fun_ext (λ j. go j (eqb j i) refl)
    where
      go : (j : ℕ) (b : Bool) → eqb j i ≡ b → finished n o j ≡ finished n m j
      go j true e = let q : j ≡ i = eqb-true j i e in ap (finished n o) q ∙ row_same ∙ sym (ap (finished n m) q)
      go j false e = unfold finished in λ k. finish_row (settings_same k) (rule_at j) (put_other i x m j (eqb-false j i e) k)

  keeps_finished : rows_verdict o ≡ Ok tt → rows_verdict m ≡ Ok tt → same_from n o m ≡ true
  keeps_finished a b =
      answer_same (a ∙ sym b)
      (ap (λ (v : Verdict). table_for n v o) a ∙ (λ k. table_of (finished_same k) (mask_same k)) ∙ sym (ap (λ (v : Verdict). table_for n v m) b))

-- ---- so the row decides

pub row_decides : (n i : ℕ) (x : CpuidResult) (m : Rows) → i < places → (m i).present ≡ true → rows_verdict (with_row i x m) ≡ Ok tt
    → rows_verdict m ≡ Ok tt → same_result (finished n (with_row i x m) i).result (finished n m i).result ≡ same_from n (with_row i x m) m
row_decides n i x m l p a b = go (same_result (finished n (with_row i x m) i).result (finished n m i).result) refl
  where
    go : (c : Bool) → same_result (finished n (with_row i x m) i).result (finished n m i).result ≡ c → c ≡ same_from n (with_row i x m) m
    go true e = sym (keeps_finished n i x m p (result_equal _ _ e) a b)
    go false e = finished_differs n i (with_row i x m) m l e a b
