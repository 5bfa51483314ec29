-- The answer's verdict is the verdicts of the eleven checks in the order of their ranks, and so refuses exactly at the first fault.
use Rattle.std.specs.Prelude.{◌≡◌, List, Err, Ok}
use Rattle.std.proofs.Math.Path.{refl}
use Rattle.std.proofs.Common.{inl, inr, le_refl, eq-or-lt_of_le, arith}
use Prim.Native.Nat.{ℕ, zero, suc, ◌≤◌, ◌<◌}
use Rattle.table.specs.declared.Choices.{Choices}
use Rattle.table.specs.declared.Refusal.{Refusal}
use Rattle.table.specs.Refusal.{and_then}
use Rattle.table.specs.Rows.{Rows}
use Rattle.checks.specs.TopologyInputs.{inputs_of}
use Rattle.checks.specs.Checks.{required_verdict, invlpgb_verdict, components_verdict, area_verdict, rows_verdict}
use Rattle.build.specs.Build.{rows_for, edition_verdict, verdict_of, answer}
use Rattle.collect.specs.Lawful.{length_verdict, counts_verdict, reserved_verdict, lawful_verdict}
use Rattle.refusals.specs.Conditions.{Check, rank, Fault, processors_said}
use Rattle.refusals.specs.Conditions.Check.{edition, length_of_pages, page_counts, reserved_bytes, required_leaves, invlpgb, components, save_area, processor_count, hyperthreading, threads_per_unit}
use Rattle.refusals.specs.Exactly.{FirstFault}
use Rattle.refusals.specs.Settles.{Settles, decided_unique}
use Rattle.refusals.specs.Settles.Settles.{passes, refuses}
use Rattle.refusals.specs.PagesSettled.{edition_decides, length_decides, counts_decide}
use Rattle.refusals.specs.ReservedSettled.{reserved_decides}
use Rattle.refusals.specs.RequiredSettled.{required_decides, invlpgb_decides}
use Rattle.refusals.specs.ExtendedStateSettled.{components_decide, area_decides}
use Rattle.refusals.specs.TopologySettled.{processor_count_verdict, hyperthreading_verdict, threads_verdict, topology_in_order, mt_lt, processor_count_decides, hyperthreading_decides, threads_decide}
use Rattle.refusals.specs.StagesSettled.{check_at, check_count, checks, rank_check, rank_unique, then_assoc}
use Rattle.table.specs.Verdict.{Verdict}

-- ---- the verdict of each check

module _ (chosen : Choices) (s : List ℕ) where
  abbrev rows : Rows
  rows = rows_for chosen s

  abbrev stage : Check → Verdict
  stage edition = edition_verdict chosen.edition
  stage length_of_pages = length_verdict s
  stage page_counts = counts_verdict s
  stage reserved_bytes = reserved_verdict s
  stage required_leaves = required_verdict rows
  stage invlpgb = invlpgb_verdict rows
  stage components = components_verdict rows
  stage save_area = area_verdict rows
  stage processor_count = processor_count_verdict (inputs_of rows)
  stage hyperthreading = hyperthreading_verdict (inputs_of rows)
  stage threads_per_unit = threads_verdict (processors_said (inputs_of rows)) (inputs_of rows).t

  stage_decides : (c : Check) → Settles (Fault chosen s c) (stage c)
  stage_decides edition = edition_decides chosen.edition
  stage_decides length_of_pages = length_decides s
  stage_decides page_counts = counts_decide s
  stage_decides reserved_bytes = reserved_decides s
  stage_decides required_leaves = required_decides rows
  stage_decides invlpgb = invlpgb_decides rows
  stage_decides components = components_decide rows
  stage_decides save_area = area_decides rows
  stage_decides processor_count = processor_count_decides (inputs_of rows) (mt_lt rows)
  stage_decides hyperthreading = hyperthreading_decides (inputs_of rows)
  stage_decides threads_per_unit = threads_decide (inputs_of rows)

module _ (chosen : Choices) (s : List ℕ) where
  -- the verdict of the checks whose rank is below n
  stages_below : ℕ → Verdict
  stages_below zero = Ok tt
  stages_below (suc n) = and_then (stages_below n) (stage chosen s (check_at n))

  verdict_in_order : verdict_of chosen s ≡ stages_below check_count
  unfolding verdict_of lawful_verdict rows_verdict stages_below check_at checks
  verdict_in_order = simp (topology_in_order, then_assoc)

  -- there is one first fault at most
  pub first_fault_unique : (q r : Refusal) → FirstFault chosen s q → FirstFault chosen s r → q ≡ r
  first_fault_unique q r f g =
      let a : ¬ (rank f.check < rank g.check) = λ h. g.first f.check q h f.fault in
      let b : ¬ (rank g.check < rank f.check) = λ h. f.first g.check r h g.fault in
      let e : f.check ≡ g.check = rank_unique f.check g.check (omega arith) in
      decided_unique (stage_decides chosen s g.check) q r (rw e at f.fault) g.fault

  -- what a verdict on the checks of rank below n says
  pub data Judged (n : ℕ) (v : Verdict) : Type 0 where
    accepted : v ≡ Ok tt → ((c : Check) (r : Refusal) → rank c < n → Fault chosen s c r → ⊥) → Judged n v
    refused : (r : Refusal) → v ≡ Err r → FirstFault chosen s r → Judged n v

  -- one check more, after a verdict u on those of rank below n
  judged_step : (n : ℕ) (u v : Verdict) → n < check_count → Judged n u → Settles (Fault chosen s (check_at n)) v
      → Judged (suc n) (and_then u v)
  judged_step n u v l (refused r e f) d = refused r (rw e) f
  judged_step n u v l (accepted e none) (refuses r p f one) =
      refused r (rw e p) (record { check = check_at n; fault = f; first = λ c q b. none c q (omega (arith, rank_check n l)) })
  judged_step n u v l (accepted e none) (passes p no_fault) = accepted (rw e p) λ c r b f.
      elim (eq-or-lt_of_le b) [
        | inl q ↦ no_fault r (rw (rank_unique c (check_at n) (omega (arith, rank_check n l))) at f)
        | inr q ↦ none c r (omega arith) f
      ]

  stages_judged : (n : ℕ) → n ≤ check_count → Judged n (stages_below n)
  unfolding stages_below
  stages_judged zero l = accepted refl (λ c r b. absurd (omega arith))
  stages_judged (suc n) l = judged_step n _ _ l (stages_judged n (omega arith)) (stage_decides chosen s (check_at n))

  pub answer_judged : Judged check_count (answer chosen s).verdict
  unfolding answer
  answer_judged = rw verdict_in_order (stages_judged check_count (le_refl check_count))
