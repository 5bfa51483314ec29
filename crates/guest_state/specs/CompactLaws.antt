-- Laws of the compacted size: what one subleaf adds, the loop's turns, and that only the subleaves of the mask matter.
use Rattle.std.specs.Prelude.{◌≡◌, refl, Bool, true, false, ℕ, ◌+◌, ◌*◌, ◌^◌, ◌≤◌}
use Rattle.std.proofs.Common.{ap, ◌∙◌, add-one, le-leb}
use Rattle.bits.specs.Bits.{has}
use Rattle.x86defs.specs.declared.CpuidResult.{CpuidResult}
use Rattle.masking.specs.Place
use Rattle.table.specs.Rows.{Rows}
use Rattle.checks.specs.LowestLaws.{Left}
use Rattle.guest_state.specs.Compact.{raised, component_start, placed, compact_below}

-- ---- one subleaf

module _ (r : CpuidResult) (n : ℕ) where
  pub placed_raised : has 1 r.ecx ≡ true → raised n + r.eax ≡ placed true r n
  unfolding placed component_start
  placed_raised f = rw f

  pub placed_packed : has 1 r.ecx ≡ false → n + r.eax ≡ placed true r n
  unfolding placed component_start
  placed_packed f = rw f

  pub placed_unused : {used : Bool} → used ≡ false → n ≡ placed used r n
  unfolding placed
  placed_unused e = rw e

-- ---- the loop

pub compact_starts : (m : Rows) (x : ℕ) → ◌≡◌ {A = ℕ} 576 (compact_below m x 2)
unfolding compact_below placed
compact_starts m x = refl

pub compact_next : (m : Rows) (x k : ℕ) {n s : ℕ} → 2 ≤ k → n ≡ compact_below m x k → has k x ≡ true
    → s ≡ placed true (m (Place.extended_state k)).result n → s ≡ compact_below m x (k + 1)
unfolding compact_below
compact_next m x k l e f g = g ∙ rw (e, add-one, compact_below, le-leb 2 k l, f)

-- the bits of the mask from bit k up are left, and the size is that of the subleaves below k: at most 576 and 2^33 for each
pub record Placing (m : Rows) (x size rest : ℕ) : Type 0 where
  pub k : ℕ
  pub low : 2 ≤ k
  pub high : k ≤ 64
  pub area : size ≡ compact_below m x k
  pub most : size ≤ 576 + k * 2 ^ 33
  pub left : Left x rest k

-- ---- only the subleaves of the mask matter

pub placed_same : (used : Bool) {r s : CpuidResult} (n : ℕ) → (used ≡ true → r ≡ s) → placed used r n ≡ placed used s n
unfolding placed
placed_same true n f = ap (λ r. placed true r n) (f refl)
placed_same false n f = refl
