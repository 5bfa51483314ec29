-- The checks over lent memory, joined: a check that refuses gives the answer, one that passes leaves it to the checks after it.
use Rattle.std.specs.Prelude.{◌≡◌, refl, true, false, List, ℕ, ◌+◌, ◌≤◌, ◌<◌, get_or, Err, Ok, Option, Result, Some}
use Rattle.std.proofs.Common.{sym, ◌∙◌, arith}
use Rattle.std.proofs.Math.Path.{ap}
use Rattle.bits.specs.ListsLaws.{get_d_tabulate}
use Rattle.topology.specs.declared.TopologyError.{TopologyError}
use Rattle.topology.specs.Topology.{topology_of}
use Rattle.masking.specs.Kept.{places}
use Rattle.table.specs.declared.Refusal.{Refusal}
use Rattle.table.specs.declared.Refusal.TheVariants.{TopologyInconsistent}
use Rattle.table.specs.Refusal.{and_then}
use Rattle.table.specs.Rows.{Rows}
use Rattle.memory.specs.Memory.{rows_in}
use Rattle.checks.specs.Required.{required_count, place_required}
use Rattle.checks.specs.ExtendedState.{xfem, combined_mask, save_area, size_of}
use Rattle.checks.specs.ExtendedStateLaws.{area_same}
use Rattle.checks.specs.SaveAreaLaws.{size_bytes}
use Rattle.checks.specs.TopologyInputs.{inputs_of}
use Rattle.checks.specs.Checks.{missing_required, size_verdict, area_verdict, topology_refusal, topology_verdict}
use Rattle.checks.specs.ScanLaws.{refuse_from, scan_passes, scan_stops, scan_ends, required_places, required_place, missing_at, required_missing}
use Rattle.finish.specs.StageLaws.{topology_found}
use Rattle.rows.specs.Checked.{registers_in, checked_by, verdict_of}
use Rattle.rows.specs.declared.checked.Checked.{Checked}
use Rattle.table.specs.Verdict.{Verdict}

-- ---- the verdict of an answer is the verdict

pub verdict_of_lem : (v : Verdict) (m : Rows) → verdict_of (checked_by v m) ≡ v
verdict_of_lem (Ok _) m = refl
verdict_of_lem (Err r) m = refl

-- ---- a check with verdict u, of which the code found v, before those with verdict w

module _ (m : Rows) (u w : Verdict) {v : Verdict} (e : v ≡ u) where
  pub check_refuses : {r : Refusal} → v ≡ Err r → Err r ≡ checked_by (and_then u w) m
  check_refuses f = rw (← e, f)

  pub check_passes : {q : Result Checked Refusal} → v ≡ Ok tt → q ≡ checked_by w m → q ≡ checked_by (and_then u w) m
  check_passes f g = g ∙ rw (← e, f)

-- ---- the required leaves: the search from row j on

abbrev pub required_from : Rows → ℕ → Verdict
required_from m j = refuse_from (λ i. (m (place_required i)).present) missing_required required_count j

module _ (m : Rows) {l : List ℕ} (j : ℕ) (e : l ≡ required_places) (h : j < required_count) where
  row : get_or l j 0 ≡ place_required j
  unfolding required_places
  row = rw e (get_d_tabulate required_count place_required j 0 h)

  pub required_row_place : get_or l j 0 < places
  required_row_place = rw row (required_place j h)

  pub required_passes : (m (get_or l j 0)).present ≡ true → required_from m j ≡ required_from m (j + 1)
  required_passes t = scan_passes _ missing_required required_count j h (ap (λ (i : ℕ). (m i).present) (sym row) ∙ t)

  pub required_stops : (m (get_or l j 0)).present ≡ false → Err (missing_at (get_or l j 0)) ≡ required_from m j
  required_stops t =
      ap (λ (i : ℕ). Err (missing_at i)) row ∙ ap Err (required_missing j h)
      ∙ sym (scan_stops _ missing_required required_count j h (ap (λ (i : ℕ). (m i).present) (sym row) ∙ t))

pub required_ends : (m : Rows) (j : ℕ) → required_count ≤ j → (Ok tt) ≡ required_from m j
required_ends m j h = sym (scan_ends _ missing_required required_count j (λ i l u. absurd (omega arith)))

-- ---- the save area: z is the size over the registers

module _ (w o : List ℕ) {z : Option ℕ} (e : z ≡ size_of (save_area (registers_in w) (xfem (rows_in w o)))) where
  abbrev m : Rows
  m = rows_in w o

  same : save_area (registers_in w) (xfem m) ≡ save_area m (xfem m)
  same = area_same (registers_in w) m (xfem m) 64 (λ k. refl)

  pub area_verdict_lem : size_verdict z ≡ area_verdict m
  unfolding area_verdict
  area_verdict_lem = ap size_verdict (e ∙ ap size_of same)

  pub area_found : {n : ℕ} → z ≡ Some n → n ≡ save_area m (xfem m)
  area_found {n} f = (size_bytes _ n (sym f ∙ e)).0 ∙ same

-- ---- the topology

module _ (m : Rows) {p : Result ℕ TopologyError} (e : p ≡ topology_of (inputs_of m)) where
  pub topology_accepts : {v x size : ℕ} → x ≡ combined_mask m → size ≡ save_area m (xfem m) → p ≡ Ok v
      → Ok (record { mask = x; size = size; processors = v }) ≡ checked_by (topology_verdict m) m
  unfolding topology_verdict
  topology_accepts k g f = (λ t. Ok (record { mask = k t; size = g t; processors = topology_found m e f t })) ∙ ap (λ (p : Result ℕ TopologyError). checked_by (topology_refusal p) m) (sym f ∙ e)

  pub topology_refuses : {r : TopologyError} → p ≡ Err r → Err (TopologyInconsistent r) ≡ checked_by (topology_verdict m) m
  unfolding topology_verdict
  topology_refuses f = rw (← e, f)
