-- Laws of the extended state: the area grows with the mask, XSS grows with its registers, and D.1.ECX ends as XSS.
use Rattle.std.specs.Prelude.{◌≡◌, refl, Bool, true, false, ◌&&◌, ℕ, zero, suc, ◌≤◌, ◌<◌, max, eqb, leb}
use Rattle.std.proofs.Common.{sym, ap, ap₂, le_refl, arith, leb-true, eqb-true}
use Rattle.bits.specs.Choice.{pick}
use Rattle.bits.specs.ChoiceLaws.{never_both, and_left, and_right, and_mono}
use Rattle.bits.specs.Bits.{has, Within}
use Rattle.bits.specs.BitsLaws.{within_zero, or_within_left}
use Rattle.bits.proofs.BitsLaws.{has_mono}
use Rattle.masking.specs.Place
use Rattle.table.specs.Rows.{Rows}
use Rattle.checks.specs.ExtendedState.{xfem, xss, combined_mask, sum_at, grown, area_below}

area_step : (p q : Bool) (a b u v : ℕ) → a ≤ b → (p ≡ true → q ≡ true) → (p ≡ true → u ≡ v) → grown a p u ≤ grown b q v
area_step true true a b u v l f g = omega (arith, g refl)
area_step true false a b u v l f g = absurd (never_both (f refl) refl)
area_step false true a b u v l f g = omega arith
area_step false false a b u v l f g = omega arith

-- no smaller over a mask with at least the bits, if the sums of the smaller mask's subleaves are the same
pub area_mono : (A B : Rows) {x y : ℕ} (n : ℕ) → Within x y → ((k : ℕ) → 2 ≤ k → k < n → has k x ≡ true → sum_at A k ≡ sum_at B k)
    → area_below A x n ≤ area_below B y n
unfolding area_below
area_mono A B zero h f = le_refl 576
area_mono A B {x} {y} (suc k) h f =
    area_step (leb 2 k && has k x) (leb 2 k && has k y) (area_below A x k) (area_below B y k) (sum_at A k) (sum_at B k)
    (area_mono A B k h (λ j l m. f j l (omega arith)))
    (and_mono (leb 2 k) (has k x) (λ e. e) (has_mono k h))
    (λ e. f k (leb-true 2 k (and_left _ _ e)) (omega arith) (and_right (leb 2 k) _ e))

-- only the sums count
pub area_same : (A B : Rows) (x n : ℕ) → ((k : ℕ) → sum_at A k ≡ sum_at B k) → area_below A x n ≡ area_below B x n
unfolding area_below
area_same A B x zero f = refl
area_same A B x (suc n) f = ap₂ max (area_same A B x n f) (ap (λ (s : ℕ). pick (leb 2 n && has n x) s 0) (f n))

pick_within : (p q : Bool) {a b : ℕ} → (p ≡ true → q ≡ true) → Within a b → Within (pick p a 0) (pick q b 0)
pick_within true true f h = h
pick_within true false f h = absurd (never_both (f refl) refl)
pick_within false q {a} {b} f h = within_zero (pick q b 0)

pub xss_mono : (A B : Rows)
    → Within (A (Place.extended_state 1)).result.eax (B (Place.extended_state 1)).result.eax
    → Within (A (Place.extended_state 1)).result.ecx (B (Place.extended_state 1)).result.ecx
    → Within (xss A) (xss B)
unfolding xss
xss_mono A B h g =
    pick_within _ _
    (and_mono (has 1 (A (Place.extended_state 1)).result.eax) (has 3 (A (Place.extended_state 1)).result.eax) (has_mono 1 h) (has_mono 3 h)) g

unless_zero : (p : Bool) (x : ℕ) → pick (eqb (pick p x 0) 0) 0 x ≡ pick p x 0
unless_zero false x = refl
unless_zero true x = go (eqb x 0) refl
  where
    go : (b : Bool) → eqb x 0 ≡ b → pick b 0 x ≡ x
    go true e = sym (eqb-true x 0 e)
    go false e = refl

-- "If XSS is 0, D.1.ECX becomes 0": so it is XSS
pub xsaves_ecx : (m : Rows) → pick (eqb (xss m) 0) 0 (m (Place.extended_state 1)).result.ecx ≡ xss m
unfolding xss
xsaves_ecx m =
    unless_zero (has 1 (m (Place.extended_state 1)).result.eax && has 3 (m (Place.extended_state 1)).result.eax)
    (m (Place.extended_state 1)).result.ecx

pub in_combined : (m : Rows) (k : ℕ) → has k (xfem m) ≡ true → has k (combined_mask m) ≡ true
unfolding combined_mask
in_combined m k = has_mono k (or_within_left (xfem m) (xss m))
