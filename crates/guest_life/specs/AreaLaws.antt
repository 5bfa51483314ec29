-- Laws of the two sizes of extended state: every component that the mask has lies within, and in the compacted form after all before it.
use Rattle.std.specs.Prelude.{◌≡◌, Bool, ◌&&◌, leb}
use Rattle.std.proofs.Math.Bool.{true, false}
use Rattle.std.proofs.Math.Logic.{inl, inr}
use Prim.Native.Nat.{ℕ, zero, suc, ◌+◌, ◌%◌, ◌≤◌, ◌<◌}
use Rattle.std.proofs.Common.{eq-or-lt_of_le, le-leb}
use Rattle.std.proofs.Math.Nat.{le_refl}
use native.Mathlib.Omega.{arith}
use Rattle.bits.specs.Choice.{pick}
use Rattle.bits.specs.ChoiceLaws.{and_both}
use Rattle.bits.specs.Bits.{has}
use Rattle.x86defs.specs.declared.CpuidResult.{CpuidResult}
use Rattle.masking.specs.Place
use Rattle.table.specs.Rows.{Rows}
use Rattle.checks.specs.ExtendedState.{sum_at, grown, area_below}
use Rattle.guest_state.specs.Compact.{raised, component_start, placed, compact_below}

-- ---- the standard form

module _ (m : Rows) (x : ℕ) where
  pub area_least : (n : ℕ) → 576 ≤ area_below m x n
  unfolding area_below
  area_least zero = le_refl 576
  area_least (suc n) = let h = area_least n in omega (arith, h)

  grown_used : (a s : ℕ) (b : Bool) → b ≡ true → s ≤ grown a b s
  grown_used a s true e = omega arith
  grown_used a s false e = absurd (let z : ◌≡◌ {A = ℕ} 0 1 = cc in omega arith)

  pub area_holds : (k n : ℕ) → 2 ≤ k → k < n → has k x ≡ true → sum_at m k ≤ area_below m x n
  unfolding area_below
  area_holds k zero l u e = absurd (omega arith)
  area_holds k (suc n) l u e =
      elim (eq-or-lt_of_le u) [
        | inl q ↦
            let z : n ≡ k = omega arith in
            rw z (grown_used (area_below m x k) (sum_at m k) (leb 2 k && has k x) (and_both (le-leb 2 k l) e))
        | inr q ↦ let h = area_holds k n l (omega arith) e in omega (arith, h)
      ]

  -- ---- the compacted form

  pub placed_after : (b : Bool) (r : CpuidResult) (n : ℕ) → n ≤ placed b r n
  unfolding placed component_start
  placed_after false r n = le_refl n
  placed_after true r n = go (has 1 r.ecx)
    where
      go : (b : Bool) → n ≤ pick b (raised n) n + r.eax
      go true = omega arith
      go false = omega arith

  pub compact_rises : (j n : ℕ) → j ≤ n → compact_below m x j ≤ compact_below m x n
  unfolding compact_below
  compact_rises j zero h = let q : j ≡ 0 = omega arith in rw q (le_refl 576)
  compact_rises j (suc n) h =
      elim (eq-or-lt_of_le h) [
        | inl q ↦ rw q (le_refl _)
        | inr q ↦
            let a = compact_rises j n (omega arith) in
            let b = placed_after (leb 2 n && has n x) (m (Place.extended_state n)).result (compact_below m x n) in
            omega (arith, a, b)
      ]

  -- where component k starts
  abbrev pub start_of : ℕ → ℕ
  start_of k = component_start (m (Place.extended_state k)).result (compact_below m x k)

  pub start_after : (k : ℕ) → compact_below m x k ≤ start_of k
  unfolding component_start
  start_after k = go (has 1 (m (Place.extended_state k)).result.ecx)
    where
      go : (b : Bool) → compact_below m x k ≤ pick b (raised (compact_below m x k)) (compact_below m x k)
      go true = omega arith
      go false = le_refl _

  pub start_aligned : (k : ℕ) → has 1 (m (Place.extended_state k)).result.ecx ≡ true → start_of k % 64 ≡ 0
  unfolding component_start
  start_aligned k e = rw e (omega arith)

  -- where it ends
  pub ends : (k : ℕ) → 2 ≤ k → has k x ≡ true → start_of k + (m (Place.extended_state k)).result.eax ≡ compact_below m x (suc k)
  unfolding compact_below placed
  ends k l e = rw (le-leb 2 k l, e)
