-- 20 is given exactly where building gives 3 for a leaf of the two required lists.
use Rattle.std.specs.Prelude.{◌≡◌, refl, List, ℕ, ◌<◌, get_or, Err, Ok}
use Rattle.std.proofs.Common.{sym, ap, ◌∙◌, arith}
use Rattle.table.specs.declared.Choices.{Choices}
use Rattle.table.specs.declared.Refusal.{Refusal}
use Rattle.table.specs.declared.Refusal.TheVariants.{NothingDecides}
use Rattle.table.specs.Rows.{Rows}
use Rattle.checks.specs.Checks.{missing_required, required_verdict, rows_verdict}
use Rattle.checks.specs.ChecksLaws.{then_left}
use Rattle.build.specs.Build.{edition_verdict, front_verdict, rows_for, verdict_of, answer}
use Rattle.build.proofs.BuildLaws.{front_known, front_lawful, front_refused}
use Rattle.refusals.specs.Conditions.{RequiredFault}
use Rattle.refusals.specs.Settles.{Settles}
use Rattle.refusals.specs.Settles.Settles.{passes, refuses}
use Rattle.refusals.specs.RequiredSettled.{required_decides}
use Rattle.nearest.specs.Nearest.{nearest}
use Rattle.nearest.specs.NearestFrontLaws.{front_refuses, searched}
use Rattle.nearest_exactly.specs.NearestExactly.{MissesRequired, TwentyExactly}
use Rattle.nearest_exactly.specs.NearestExactlyProof.{settled_refuses}
use Rattle.nearest_exactly.proofs.NearestExactlyProof.{front_accepts, nearest_exactly}
use Rattle.nearest_exactly.specs.NoDecisiveBit.{nothing_decides, some_decides}
use Rattle.table.specs.Verdict.{Verdict}

module _ (c : Choices) (s : List ℕ) (bytes : (k : ℕ) → get_or s k 0 < 256) where
  abbrev m : Rows
  m = rows_for c s

  -- by what 15, 1, 2 and 17 come to
  module _ (e : front_verdict c s ≡ Ok tt) where
    missing_named : (r : Refusal) → required_verdict m ≡ Err r → (answer c s).verdict ≡ Err r
    unfolding answer verdict_of rows_verdict
    missing_named r f = rw (then_left (edition_verdict c.edition) _ e, front_lawful c s e, f)

    decided : Settles (λ q. (j : ℕ) × RequiredFault m j × (q ≡ missing_required j)) (required_verdict m) → nearest c s ≡ Err NothingDecides
        → MissesRequired c s
    decided (passes f n) g = absurd (some_decides c s bytes (front_known c s e) (front_lawful c s e) f (sym (searched c s e) ∙ g))
    decided (refuses r f (j, fault, h) one) g = (j, fault, missing_named (missing_required j) (f ∙ ap Err h))

    nothing : (j : ℕ) → RequiredFault m j → nearest c s ≡ Err NothingDecides
    nothing j fault =
        searched c s e
        ∙ nothing_decides c s bytes (front_known c s e) (front_lawful c s e) (missing_required j)
        (settled_refuses (missing_required j) (required_decides m) (j, fault, refl))

  -- a front that refuses names no leaf of the lists, and not 20
  pub twenty : (nearest c s ≡ Err NothingDecides → MissesRequired c s) × (MissesRequired c s → nearest c s ≡ Err NothingDecides)
  twenty = go (front_verdict c s) refl
    where
      go : (v : Verdict) → front_verdict c s ≡ v
          → (nearest c s ≡ Err NothingDecides → MissesRequired c s) × (MissesRequired c s → nearest c s ≡ Err NothingDecides)
      go (Ok _) e = (decided e (required_decides m), λ w. nothing e w.0 w.1)
      go (Err r) e = (
        λ g.
            let f : (Ok tt) ≡ Err r = sym (front_accepts c s ((nearest_exactly c s (Err NothingDecides)).0 g).0) ∙ e in
            let z : ◌≡◌ {A = ℕ} 0 1 = cc in absurd (omega arith),
        λ w.
            let q : r ≡ missing_required w.0 = (let h : Err r ≡ Err (missing_required w.0) = sym (front_refused c s e) ∙ w.2 in cc) in
            absurd ((nearest_exactly c s (Err (missing_required w.0))).0 (front_refuses c s e ∙ ap Err q)),
      )

pub twenty_exactly : (c : Choices) (s : List ℕ) → TwentyExactly c s
twenty_exactly c s bytes = twenty c s bytes
