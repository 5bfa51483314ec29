-- The ways through: building refuses, or the guest's answer is given on its table.
use Rattle.std.specs.Prelude.{◌≡◌, Err, Ok}
use Rattle.std.proofs.Math.Path.{ap}
use Rattle.table.specs.declared.CpuidResults.{CpuidResults}
use Rattle.table.specs.declared.Refusal.{Refusal}
use Rattle.guest.specs.declared.Processor.{Processor}
use Rattle.guest.specs.Guest.{guest_answer, refused_answer}
use Rattle.guest.specs.GuestPages.{guest_by}
use Rattle.table.specs.Verdict.{Verdict}

-- ---- by building's verdict

module _ (t : CpuidResults) (v : Processor) where
  pub of_refused : {w : Verdict} {r : Refusal} → w ≡ Err r → guest_by w t v ≡ refused_answer r
  of_refused e = ap (λ (w : Verdict). guest_by w t v) e

  pub of_accepted : {w : Verdict} → w ≡ Ok tt → guest_by w t v ≡ guest_answer t v
  unfolding guest_answer
  of_accepted e = ap (λ (w : Verdict). guest_by w t v) e
