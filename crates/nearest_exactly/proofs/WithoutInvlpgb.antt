-- Of pages that building refuses by 4 the nearest bit is INVLPGB's own: 80000008h.EBX bit 3.
use Rattle.std.proofs.Math.Path.{◌≡◌, refl, ap}
use Rattle.std.proofs.Common.{sym, ◌∙◌, arith}
use Rattle.std.specs.Prelude.{Bool, List, ℕ, ◌<◌, get_or, Err, Ok}
use Rattle.std.proofs.Math.Bool.{true, false}
use Rattle.pages.specs.Layout.{entry_at}
use Rattle.masking.specs.Place
use Rattle.table.specs.declared.Choices.{Choices}
use Rattle.table.specs.declared.Refusal.TheVariants.{InvlpgbUnavailable}
use Rattle.table.specs.Rows.{Rows}
use Rattle.checks.specs.Checks.{missing_required, required_verdict, rows_verdict}
use Rattle.checks.specs.ChecksLaws.{then_left}
use Rattle.collect.specs.Collect.{stored_at}
use Rattle.build.specs.Build.{edition_verdict, front_verdict, rows_for, verdict_of, answer}
use Rattle.build.proofs.BuildLaws.{front_known, front_lawful, front_refused}
use Rattle.refusals.specs.Conditions.{RequiredFault}
use Rattle.refusals.specs.Settles.{Settles}
use Rattle.refusals.specs.Settles.Settles.{passes, refuses}
use Rattle.refusals.specs.RequiredSettled.{required_decides}
use Rattle.table.specs.Numbers.{numbers_of}
use Rattle.nearest.specs.Flips.{flip}
use Rattle.nearest.specs.Nearest.{nearest}
use Rattle.nearest.specs.NearestFrontLaws.{front_refuses, searched}
use Rattle.nearest_exactly.proofs.NearestExactlyProof.{nearest_exactly}
use Rattle.nearest_exactly.specs.Invlpgb.{invlpgb, not_four}
use Rattle.nearest_exactly.specs.NoDecisiveBit.{without_invlpgb}
use Rattle.nearest_exactly.specs.WithoutInvlpgb.{InvlpgbNearest}
use Rattle.table.specs.Verdict.{Verdict}

module _ (c : Choices) (s : List ℕ) (bytes : (k : ℕ) → get_or s k 0 < 256) where
  abbrev m : Rows
  m = rows_for c s

  of_rows : front_verdict c s ≡ Ok tt → (answer c s).verdict ≡ rows_verdict m
  unfolding answer verdict_of
  of_rows e = rw (then_left (edition_verdict c.edition) _ e, front_lawful c s e)

  found : (e : front_verdict c s ≡ Ok tt) → required_verdict m ≡ Ok tt → invlpgb m ≡ false → InvlpgbNearest c s
  found e f g =
      let (p, q, stored, h) = without_invlpgb c s bytes (front_known c s e) (front_lawful c s e) f g in (p, q, stored, searched c s e ∙ h)

  by_rows : (e : front_verdict c s ≡ Ok tt) → rows_verdict m ≡ Err InvlpgbUnavailable
      → Settles (λ q. (j : ℕ) × RequiredFault m j × (q ≡ missing_required j)) (required_verdict m) → InvlpgbNearest c s
  by_rows e f (refuses r g (j, fault, h) one) =
      let k : rows_verdict m ≡ Err (missing_required j) = (unfold rows_verdict in rw (g ∙ ap Err h)) in
      let z : ◌≡◌ {A = ℕ} 0 1 = cc in absurd (omega arith)
  by_rows e f (passes g n) = go (invlpgb m) refl
    where
      go : (b : Bool) → invlpgb m ≡ b → InvlpgbNearest c s
      go true h = absurd (not_four m g h (ap (λ (v : Verdict). (numbers_of v).number) f))
      go false h = found e g h

  pub refused_by_4 : (answer c s).verdict ≡ Err InvlpgbUnavailable → InvlpgbNearest c s
  refused_by_4 e = go (front_verdict c s) refl
    where
      go : (v : Verdict) → front_verdict c s ≡ v → InvlpgbNearest c s
      go (Ok _) f = by_rows f (sym (of_rows f) ∙ e) (required_decides m)
      go (Err r) f =
          let q : r ≡ InvlpgbUnavailable = (let h : Err r ≡ Err InvlpgbUnavailable = sym (front_refused c s f) ∙ e in cc) in
          absurd ((nearest_exactly c s (Err InvlpgbUnavailable)).0 (front_refuses c s f ∙ ap Err q))
