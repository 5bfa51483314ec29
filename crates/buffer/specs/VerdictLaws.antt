-- A write by the verdict that comes before it: refused and untouched, or the bytes at the front. d and b are the verdict and the bytes that the code
-- has.
use Rattle.std.specs.Prelude.{◌≡◌, List, ℕ, Err, Ok}
use Rattle.std.proofs.Common.{sym, ap, ◌∙◌}
use Rattle.table.specs.declared.Refusal.{Refusal}
use Rattle.buffer.specs.Front.{AfterWrite, write_front, write_verdict}
use Rattle.table.specs.Verdict.{Verdict}

module _ {d v : Verdict} (bytes buffer : List ℕ) (same : d ≡ v) where
  by_verdict : {u : Verdict} → d ≡ u → write_verdict u bytes buffer ≡ write_verdict v bytes buffer
  by_verdict e = ap (λ (x : Verdict). write_verdict x bytes buffer) (sym e ∙ same)

  pub verdict_refused : {r : Refusal} → d ≡ Err r → ◌≡◌ {A = AfterWrite} (record { answer = Err r; buffer = buffer }) (write_verdict v bytes buffer)
  verdict_refused e = by_verdict e

  pub verdict_accepted : {b : List ℕ} → d ≡ Ok tt → b ≡ bytes → write_front b buffer ≡ write_verdict v bytes buffer
  verdict_accepted e f = ap (λ (x : List ℕ). write_front x buffer) f ∙ by_verdict e
