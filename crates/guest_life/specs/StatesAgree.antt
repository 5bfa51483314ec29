-- Tables that agree in what a state reads, D.0.EAX, D.1.EAX and ECX, and its own subleaves from 2 up, give it alike, with the same sizes.
use Rattle.std.specs.Prelude.{◌≡◌, Bool, true, ◌&&◌, ltb}
use Rattle.std.proofs.Common.{sym, arith}
use Rattle.std.proofs.Math.Path.{ap, ap₂}
use Prim.Native.Nat.{ℕ, ◌+◌, ◌-◌, ◌^◌, ◌≤◌, ◌<◌, min}
use Rattle.std.specs.Int.Bits.{bit_or}
use Rattle.bits.specs.Choice.{pick}
use Rattle.bits.specs.Bits.{has}
use Rattle.bits.specs.BitsLaws.{within_refl, or_within_left}
use Rattle.bits.proofs.BitsLaws.{has_mono}
use Rattle.x86defs.specs.declared.CpuidResult.{CpuidResult}
use Rattle.masking.specs.Place
use Rattle.table.specs.declared.Refusal.TheVariants.{StateBeyondTable, CompactSizeTooLarge}
use Rattle.table.specs.Refusal.{and_then}
use Rattle.table.specs.declared.CpuidResults.{CpuidResults}
use Rattle.table.specs.Rows.{Rows}
use Rattle.table.specs.Table.{row_in, rows_of_table}
use Rattle.checks.specs.Checks.{refuse_unless}
use Rattle.checks.specs.ExtendedState.{xfem, xss, combined_mask, save_area, sum_at}
use Rattle.checks.specs.ExtendedStateLaws.{area_mono}
use Rattle.guest_state.proofs.CompactLaws.{compact_same}
use Rattle.guest_state.specs.State.{compacts, save_register, compact_register, allowed, allowed_verdict, compact_verdict, state_verdict}

pub record StatesAgree (t u : CpuidResults) (xcr0 s : ℕ) : Type 0 where
  pub xfem : (row_in t (Place.extended_state 0)).result.eax ≡ (row_in u (Place.extended_state 0)).result.eax
  pub eax : (row_in t (Place.extended_state 1)).result.eax ≡ (row_in u (Place.extended_state 1)).result.eax
  pub ecx : (row_in t (Place.extended_state 1)).result.ecx ≡ (row_in u (Place.extended_state 1)).result.ecx
  pub components : (k : ℕ) → 2 ≤ k → k < 64 → has k (bit_or xcr0 s) ≡ true
      → (row_in t (Place.extended_state k)).result ≡ (row_in u (Place.extended_state k)).result

module _ (t u : CpuidResults) (xcr0 s : ℕ) (agree : StatesAgree t u xcr0 s) where
  abbrev T : Rows
  T = rows_of_table t

  abbrev U : Rows
  U = rows_of_table u

  pub xfem_agrees : xfem T ≡ xfem U
  unfolding xfem
  xfem_agrees = agree.xfem

  pub xss_agrees : xss T ≡ xss U
  unfolding xss
  xss_agrees = ap₂ (λ (a c : ℕ). pick (has 1 a && has 3 a) c 0) agree.eax agree.ecx

  pub mask_agrees : combined_mask T ≡ combined_mask U
  unfolding combined_mask
  mask_agrees = ap₂ bit_or xfem_agrees xss_agrees

  area_agrees : save_area T xcr0 ≡ save_area U xcr0
  area_agrees =
      let same : (k : ℕ) → 2 ≤ k → k < 64 → has k xcr0 ≡ true → sum_at T k ≡ sum_at U k =
      λ k l h e. ap (λ (r : CpuidResult). r.eax + r.ebx) (agree.components k l h (has_mono k (or_within_left xcr0 s) e)) in
      let up : save_area T xcr0 ≤ save_area U xcr0 = area_mono T U 64 (within_refl xcr0) same in
      let down : save_area U xcr0 ≤ save_area T xcr0 = area_mono U T 64 (within_refl xcr0) (λ k l h e. sym (same k l h e)) in
      omega (arith, up, down)

  pub save_agrees : save_register T xcr0 ≡ save_register U xcr0
  unfolding save_register
  save_agrees = ap (λ (n : ℕ). min n (2 ^ 32 - 1)) area_agrees

  pub compact_agrees : compact_register T xcr0 s ≡ compact_register U xcr0 s
  unfolding compact_register
  compact_agrees = ap₂ (λ (b : Bool) (n : ℕ). pick b n 0) (ap compacts agree.eax) (compact_same T U (bit_or xcr0 s) 64 agree.components)

  pub verdict_agrees : state_verdict T xcr0 s ≡ state_verdict U xcr0 s
  unfolding state_verdict allowed_verdict compact_verdict
  verdict_agrees =
      let f = xfem_agrees in
      let m = xss_agrees in
      let c = compact_agrees in
      λ k. and_then (refuse_unless (allowed (f k) (m k) xcr0 s) StateBeyondTable) (refuse_unless (ltb (c k) (2 ^ 32)) CompactSizeTooLarge)
