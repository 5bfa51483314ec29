-- Reading, one case for each return of the function.
use Rattle.std.specs.Prelude.{◌≡◌, List, ℕ}
use Rattle.std.proofs.Common.{sym, ap}
use Rattle.buffer.specs.Front.{AfterWrite}
use Rattle.kvm_import.specs.Import.{read_list}
use Rattle.buffer.specs.Written.{Written}

-- both parts of the contract
abbrev pub Gives : Written → List ℕ → List ℕ → List ℕ → Type 0
Gives a out l buffer = (a ≡ (read_list l buffer).answer) × (out ≡ (read_list l buffer).buffer)

pub gives : (l buffer : List ℕ) {a : Written} {out : List ℕ} → read_list l buffer ≡ record { answer = a; buffer = out } → Gives a out l buffer
gives l buffer e = (sym (ap (λ (o : AfterWrite). o.answer) e), sym (ap (λ (o : AfterWrite). o.buffer) e))
