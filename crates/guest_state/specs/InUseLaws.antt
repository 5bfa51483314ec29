-- The state in use by the code's returns, and that it is the verdict on the table that the memory holds.
use Rattle.std.specs.Prelude.{◌≡◌, refl, Bool, true, false, List, ℕ, get_or, Err, Ok, Result}
use Rattle.std.proofs.Math.Path.{sym, ap}
use Rattle.std.proofs.Common.{◌∙◌}
use Rattle.x86defs.specs.declared.CpuidResult.{CpuidResult}
use Rattle.x86defs.specs.Functions.{cpuid_result}
use Rattle.table.specs.declared.Refusal.{Refusal}
use Rattle.table.specs.Rows.{Rows}
use Rattle.memory.specs.Memory.{is_there, row_of}
use Rattle.guest_state.specs.State.{compact_register, state_verdict}
use Rattle.guest_state.specs.InUse.{read_rows, in_use_by, in_use}
use Rattle.table.specs.Verdict.{Verdict}

-- ---- by the verdict

module _ (m : Rows) (x s : ℕ) where
  pub use_refused : {r : Refusal} → Err r ≡ state_verdict m x s → Err r ≡ in_use m x s
  unfolding in_use
  use_refused e = ap (λ (v : Verdict). in_use_by v (compact_register m x s)) e

  pub use_given : {n : ℕ} → (Ok tt) ≡ state_verdict m x s → n ≡ compact_register m x s → Ok n ≡ in_use m x s
  unfolding in_use
  use_given e f = ap Ok f ∙ ap (λ (v : Verdict). in_use_by v (compact_register m x s)) e

-- and back: what an answer tells of the verdict
abbrev verdict_in : Result ℕ Refusal → Verdict
verdict_in (Err r) = Err r
verdict_in (Ok n) = Ok tt

abbrev size_in : Result ℕ Refusal → ℕ → ℕ
size_in (Err r) n = n
size_in (Ok k) n = k

verdict_in_lem : (v : Verdict) (n : ℕ) → verdict_in (in_use_by v n) ≡ v
verdict_in_lem (Ok _) n = refl
verdict_in_lem (Err r) n = refl

size_in_lem : (v : Verdict) (n : ℕ) → size_in (in_use_by v n) n ≡ n
size_in_lem (Ok _) n = refl
size_in_lem (Err r) n = refl

module _ (m : Rows) (x s : ℕ) {u : Result ℕ Refusal} (e : u ≡ in_use m x s) where
  pub told_refused : {r : Refusal} → u ≡ Err r → state_verdict m x s ≡ Err r
  unfolding in_use
  told_refused f = sym (verdict_in_lem (state_verdict m x s) (compact_register m x s)) ∙ ap verdict_in (sym e ∙ f)

  pub told_given : {n : ℕ} → u ≡ Ok n → state_verdict m x s ≡ Ok tt
  unfolding in_use
  told_given f = sym (verdict_in_lem (state_verdict m x s) (compact_register m x s)) ∙ ap verdict_in (sym e ∙ f)

  pub told_size : {n : ℕ} → u ≡ Ok n → n ≡ compact_register m x s
  unfolding in_use
  told_size f =
      sym (sym (size_in_lem (state_verdict m x s) (compact_register m x s)) ∙ ap (λ (q : Result ℕ Refusal). size_in q (compact_register m x s)) (sym e ∙ f))

-- ---- a row read

module _ (w o : List ℕ) (i : ℕ) {q : CpuidResult} where
  pub read_there : {own there : Bool} → own ≡ true → there ≡ is_there (get_or o i 0) → there ≡ true → q ≡ row_of w i → q ≡ (read_rows own w o i).result
  read_there e f g h = h ∙ rw (e, ← f, g)

  pub read_absent : {own there : Bool} → own ≡ true → there ≡ is_there (get_or o i 0) → there ≡ false → q ≡ cpuid_result 0 0 0 0
      → q ≡ (read_rows own w o i).result
  read_absent e f g h = h ∙ rw (e, ← f, g)

  pub read_any : {own : Bool} → own ≡ false → q ≡ row_of w i → q ≡ (read_rows own w o i).result
  read_any e h = h ∙ rw e
