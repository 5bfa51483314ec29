-- Verdict and sizes, one case for each return of the function; and that they are of leaf Dh's registers alone, so that tables
-- that differ elsewhere give a guest the same.
use Rattle.std.specs.Prelude.{◌≡◌, Bool, true, false, Err, None, Ok, Option, Some}
use Rattle.std.proofs.Math.Path.{sym}
use Rattle.std.proofs.Common.{◌∙◌, arith}
use Prim.Native.Nat.{ℕ, ◌^◌, ◌≤◌, ◌<◌}
use borrow.Author.Tests.{lt-ltb, le-ltb, ltb-true}
use Rattle.table.specs.declared.Refusal.TheVariants.{StateBeyondTable, CompactSizeTooLarge}
use Rattle.table.specs.Rows.{Rows}
use Rattle.checks.specs.ChecksLaws.{then_right, demanded}
use Rattle.checks.specs.ExtendedState.{xfem, xss as maxXss, save_area, size_of}
use Rattle.checks.specs.SaveAreaLaws.{size_bytes, size_large}
use Rattle.guest_state.specs.State.{allowed, save_register, compact_register, allowed_verdict, compact_verdict, state_verdict}
use Rattle.table.specs.Verdict.{Verdict}

-- ---- the size over XCR0, from what `xsave_size` gives

module _ (m : Rows) (x : ℕ) {z : Option ℕ} (e : z ≡ size_of (save_area m x)) where
  pub save_bytes : {n : ℕ} → z ≡ Some n → n ≡ save_register m x
  unfolding save_register
  save_bytes {n} f = let h = size_bytes _ n (sym f ∙ e) in omega (arith, h.0, h.1)

  pub save_large : z ≡ None → ◌≡◌ {A = ℕ} 4294967295 (save_register m x)
  unfolding save_register
  save_large f = omega (arith, size_large _ (sym f ∙ e))

-- ---- the verdict

module _ (m : Rows) (x s : ℕ) {ok : Bool} (e : ok ≡ allowed (xfem m) (maxXss m) x s) where
  pub state_beyond : ok ≡ false → Err StateBeyondTable ≡ state_verdict m x s
  unfolding state_verdict allowed_verdict
  state_beyond f = rw (← e, f)

  state_of_size : ok ≡ true → {v : Verdict} → v ≡ compact_verdict m x s → v ≡ state_verdict m x s
  unfolding state_verdict allowed_verdict
  state_of_size f g = g ∙ rw (← e, f)

  module _ {n : ℕ} (g : n ≡ compact_register m x s) (f : ok ≡ true) where
    pub state_large : 2 ^ 32 ≤ n → Err CompactSizeTooLarge ≡ state_verdict m x s
    state_large h = state_of_size f (unfold compact_verdict in rw (← g, le-ltb n (2 ^ 32) h))

    pub state_accepted : n < 2 ^ 32 → (Ok tt) ≡ state_verdict m x s
    state_accepted h = state_of_size f (unfold compact_verdict in rw (← g, lt-ltb n (2 ^ 32) h))

-- an accepted state's compacted size is a register's
pub accepted_fits : (m : Rows) (x s : ℕ) → state_verdict m x s ≡ Ok tt → compact_register m x s < 2 ^ 32
unfolding state_verdict compact_verdict
accepted_fits m x s e = ltb-true _ _ (demanded _ CompactSizeTooLarge (then_right (allowed_verdict m x s) _ e))
