-- Verdict and sizes, one case for each return of the function; and that they are of leaf Dh's registers alone, so that tables
-- that differ elsewhere give a guest the same.
use Rattle.std.specs.Prelude.{◌≡◌, ◌&&◌, ltb}
use Rattle.std.proofs.Math.Path.{sym, ap, ap₂}
use Rattle.std.proofs.Common.{arith, lit<}
use Prim.Native.Nat.{ℕ, ◌+◌, ◌-◌, ◌^◌, ◌≤◌, ◌<◌, min}
use Rattle.std.specs.Int.Bits.{bit_or}
use Rattle.bits.specs.Choice.{pick}
use Rattle.bits.specs.Bits.{has}
use Rattle.bits.specs.BitsLaws.{within_refl}
use Rattle.x86defs.specs.declared.CpuidResult.{CpuidResult}
use Rattle.masking.specs.Place
use Rattle.table.specs.declared.Refusal.TheVariants.{StateBeyondTable, CompactSizeTooLarge}
use Rattle.table.specs.Refusal.{and_then}
use Rattle.table.specs.Rows.{Rows}
use Rattle.checks.specs.Checks.{refuse_unless}
use Rattle.checks.specs.ExtendedState.{xfem, xss as maxXss, save_area}
use Rattle.checks.specs.ExtendedStateLaws.{area_mono}
use Rattle.guest_state.proofs.CompactLaws.{compact_same}
use Rattle.guest_state.specs.State.{allowed, compacts, save_register, compact_register, allowed_verdict, compact_verdict, state_verdict}

-- ---- leaf Dh alone

module _ (A B : Rows) (same : (k : ℕ) → k < 64 → (A (Place.extended_state k)).result ≡ (B (Place.extended_state k)).result) (x s : ℕ) where
  pub save_of_state : save_register A x ≡ save_register B x
  unfolding save_register
  save_of_state =
      let up : save_area A x ≤ save_area B x =
      area_mono A B 64 (within_refl x) (λ k l h e. ap (λ (r : CpuidResult). r.eax + r.ebx) (same k h)) in
      let down : save_area B x ≤ save_area A x =
      area_mono B A 64 (within_refl x) (λ k l h e. sym (ap (λ (r : CpuidResult). r.eax + r.ebx) (same k h))) in
      let e : save_area A x ≡ save_area B x = omega (arith, up, down) in
      ap (λ (n : ℕ). min n (2 ^ 32 - 1)) e

  pub compact_of_state : compact_register A x s ≡ compact_register B x s
  unfolding compact_register
  compact_of_state =
      ap₂ (λ (a n : ℕ). pick (compacts a) n 0) (ap (λ (r : CpuidResult). r.eax) (same 1 (lit< tt)))
      (compact_same A B (bit_or x s) 64 (λ k l h e. same k h))

  xfem_of_state : xfem A ≡ xfem B
  unfolding xfem
  xfem_of_state = ap (λ (r : CpuidResult). r.eax) (same 0 (lit< tt))

  xss_of_state : maxXss A ≡ maxXss B
  unfolding maxXss
  xss_of_state = ap (λ (r : CpuidResult). pick (has 1 r.eax && has 3 r.eax) r.ecx 0) (same 1 (lit< tt))

  allowed_of_state : allowed_verdict A x s ≡ allowed_verdict B x s
  unfolding allowed_verdict
  allowed_of_state = ap₂ (λ (f t : ℕ). refuse_unless (allowed f t x s) StateBeyondTable) xfem_of_state xss_of_state

  size_of_state : compact_verdict A x s ≡ compact_verdict B x s
  unfolding compact_verdict
  size_of_state = ap (λ (n : ℕ). refuse_unless (ltb n (2 ^ 32)) CompactSizeTooLarge) compact_of_state

  pub verdict_of_state : state_verdict A x s ≡ state_verdict B x s
  unfolding state_verdict
  verdict_of_state = ap₂ and_then allowed_of_state size_of_state
