-- Where sets stand: each of lawful ones lies in the slice, and the part that the code cuts out of it is the server's set.
use Rattle.std.specs.Prelude.{◌≡◌, refl, List, ℕ, zero, suc, ◌+◌, ◌-◌, ◌≤◌, get_or, take, drop}
use Rattle.std.proofs.Common.{ap, inl, inr, le_trans, le_of_eq, eq-or-lt_of_le, add-one, arith}
use Rattle.bits.specs.Lists.{sum_to}
use Rattle.pool.specs.Sets.{set_start, set_at}

-- ---- where sets stand

pub start_first : (lengths : List ℕ) → set_start lengths 0 ≡ 0
unfolding set_start sum_to
start_first lengths = refl

pub start_next : (lengths : List ℕ) (k : ℕ) → set_start lengths (k + 1) ≡ set_start lengths k + get_or lengths k 0
unfolding set_start sum_to
start_next lengths k = rw (add-one, sum_to)

pub start_up : (lengths : List ℕ) (j n : ℕ) → j ≤ n → set_start lengths j ≤ set_start lengths n
unfolding set_start sum_to
start_up lengths j zero h = let e : j ≡ 0 = omega arith in le_of_eq (ap (set_start lengths) e)
start_up lengths j (suc n) h =
    elim (eq-or-lt_of_le h) [ inl q ↦ le_of_eq (ap (set_start lengths) q) | inr q ↦ le_trans (start_up lengths j n (omega arith)) (omega arith) ]

-- a part of the slice, as the code cuts it out, is a set
pub set_of : (pages lengths : List ℕ) (k start : ℕ) → start ≡ set_start lengths k
    → take (start + get_or lengths k 0 - start) (drop start pages) ≡ set_at pages lengths k
unfolding set_at
set_of pages lengths k start at = let e : start + get_or lengths k 0 - start ≡ get_or lengths k 0 = omega arith in rw (e, at)
