-- What the checks read of the rows: a row at a place that none reads leaves the verdict; and what the rules read of each other.
use Rattle.std.specs.Prelude.{◌≡◌, Bool, true, ◌≢◌}
use Rattle.std.proofs.Common.{sym, ◌∙◌, arith}
use Rattle.std.proofs.Math.Path.{ap, fun_ext}
use Prim.Native.Nat.{ℕ, ◌+◌, ◌≤◌, ◌<◌}
use Rattle.std.specs.Int.Bits.{bit_or}
use Rattle.bits.specs.Choice.{pick}
use Rattle.bits.specs.Bits.{has}
use Rattle.bits.specs.BitsLaws.{within_refl}
use Rattle.bits.specs.Search.{lowest}
use Rattle.x86defs.specs.declared.CpuidResult.{CpuidResult}
use Rattle.x86defs.specs.ExtendedSevFeaturesEax as Sev
use Rattle.topology.specs.Topology.{topology_of, processors, thread_level, core_level}
use Rattle.masking.specs.Place
use Rattle.table.specs.Refusal.{and_then}
use Rattle.table.specs.Rows.{Row, Rows}
use Rattle.checks.specs.ExtendedState.{xfem, xss_of, xss, combined_mask, sum_at, save_area, size_of}
use Rattle.checks.specs.ExtendedStateLaws.{area_mono, in_combined}
use Rattle.checks.specs.TopologyInputs.{inputs_of}
use Rattle.checks.specs.Checks.{refuse_at, missing_component, size_verdict, topology_refusal, invlpgb_of, invlpgb_verdict, components_of, components_verdict, area_verdict, topology_verdict, rows_verdict}
use Rattle.finish.specs.Finish.{enabled_by, ymm_clears, settings}
use Rattle.nearest.specs.WithRow.{with_row}
use Rattle.nearest.specs.WithRowLaws.{put_other, put_present, required_same}

-- place i is none that a check reads the registers of
pub record Unread (m : Rows) (i : ℕ) : Type 0 where
  pub version : Place.version_and_features ≢ i
  pub definition : Place.processor_topology_definition ≢ i
  pub sizes : Place.extended_address_space_sizes ≢ i
  pub state0 : Place.extended_state 0 ≢ i
  pub state1 : Place.extended_state 1 ≢ i
  pub states : (k : ℕ) → 2 ≤ k → k < 64 → has k (combined_mask m) ≡ true → Place.extended_state k ≢ i

module _ (i : ℕ) (x : CpuidResult) (m : Rows) (present : (m i).present ≡ true) (u : Unread m i) where
  abbrev o : Rows
  o = with_row i x m

  xfem_same : xfem o ≡ xfem m
  unfolding xfem
  xfem_same = ap (λ (r : Row). r.result.eax) (put_other i x m (Place.extended_state 0) u.state0)

  xss_same : xss o ≡ xss m
  unfolding xss
  xss_same = ap (λ (r : Row). xss_of r.result) (put_other i x m (Place.extended_state 1) u.state1)

  pub mask_same : combined_mask o ≡ combined_mask m
  unfolding combined_mask
  mask_same k = bit_or (xfem_same k) (xss_same k)

  invlpgb_same : invlpgb_verdict o ≡ invlpgb_verdict m
  unfolding invlpgb_verdict
  invlpgb_same = ap (λ (r : Row). invlpgb_of r.result) (put_other i x m Place.extended_address_space_sizes u.sizes)

  components_same : components_verdict o ≡ components_verdict m
  unfolding components_verdict components_of
  components_same =
      ap (λ (t : ℕ → Bool). refuse_at (lowest t 2 62) missing_component)
      (fun_ext (λ j k. pick (has j (mask_same k)) (put_present i x m present (Place.extended_state j) k) true))

  -- what the sums are over XFEM
  sum_same : (k : ℕ) → 2 ≤ k → k < 64 → has k (xfem m) ≡ true → sum_at o k ≡ sum_at m k
  sum_same k l h e =
      ap (λ (r : Row). r.result.eax + r.result.ebx) (put_other i x m (Place.extended_state k) (u.states k l h (in_combined m k e)))

  area_same : save_area o (xfem o) ≡ save_area m (xfem m)
  area_same =
      ap (save_area o) xfem_same
      ∙ (let a : save_area o (xfem m) ≤ save_area m (xfem m) = area_mono o m 64 (within_refl (xfem m)) sum_same in
      let b : save_area m (xfem m) ≤ save_area o (xfem m) = area_mono m o 64 (within_refl (xfem m)) (λ k l h e. sym (sum_same k l h e)) in
      omega arith)

  inputs_same : inputs_of o ≡ inputs_of m
  unfolding inputs_of
  inputs_same =
      rw (
        put_other i x m Place.extended_address_space_sizes u.sizes,
        put_other i x m Place.version_and_features u.version,
        put_other i x m Place.processor_topology_definition u.definition,
      )

  -- so no check finds anything else
  pub verdict_same : rows_verdict o ≡ rows_verdict m
  unfolding rows_verdict area_verdict topology_verdict
  verdict_same k =
      and_then (required_same i x m present k)
      (and_then (invlpgb_same k)
      (and_then (components_same k) (and_then (size_verdict (size_of (area_same k))) (topology_refusal (topology_of (inputs_same k))))))

  -- and rules have from other rows what they had
  pub settings_same : Place.extended_sev_features ≢ i → (n : ℕ) → settings n o ≡ settings n m
  unfolding settings enabled_by
  settings_same sev n k = record {
    clears = ymm_clears n;
    enabled = record {
      xfem = xfem_same k;
      xss = xss_same k;
      tsc_aux =
          has (Sev.position Sev.ExtendedSevFeaturesEax.tsc_aux_virtualization)
          (ap (λ (r : Row). r.result.eax) (put_other i x m Place.extended_sev_features sev) k);
    };
    save_area = area_same k;
    threads = thread_level (inputs_same k).t;
    cores = core_level (processors (topology_of (inputs_same k)));
  }
